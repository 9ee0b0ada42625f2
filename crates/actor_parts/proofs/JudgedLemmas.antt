-- Judging by the read set alone is what a world makes of a call.
use Rattle.std.proofs.Common.{◌≡◌, ℕ, cond, Bool, true, false, Option, Some, None, [], ◌∷◌, ◌==◌, eq-eqb, refl, ◌∙◌}
use Rattle.std.proofs.lemmas.Bool.{cond-true}
use Rattle.tx_sets.specs.Entries.{Entries, lookup}
use Rattle.tx_machine.specs.Notices as notice
use Rattle.seq_model.specs.declared.refusal.Refusal.TheVariants as refusal
use Rattle.replay_log.specs.Contents.{CallWithOutcome}
use Rattle.replay_log.specs.Worlds.{World, Seat, After, judges, because, gives_up, actor_of, has_loaded, loads}
use Rattle.actor_parts.specs.declared.judged.Judged.{Judged}
use Rattle.actor_parts.specs.declared.judged.Judged.TheVariants.{Stale}
use Rattle.actor_parts.specs.Judged.{judged_one, judged, left_one, left_after, comes_to, IsJudged}

module _ {V : Type 0} where
  fresh : (w : World V) (a : ℕ) (x : Seat V) (o : CallWithOutcome V) (d : ℕ × ℕ) (v : ℕ) (es rest : Entries) (next : After V)
      (j : Judged) (b : Bool)
      → next ≡ comes_to w a x o rest j
      → cond b next (gives_up w a (because x (refusal.Stale d.0 d.1 v)) [])
      ≡ comes_to w a x o (cond b rest (d ∷ es)) (cond b j (Stale d.0 d.1 v))
  fresh w a x o d v es rest next j true e = e
  fresh w a x o d v es rest next j false e = refl

  one : (w : World V) (a : ℕ) (x : Seat V) (o : CallWithOutcome V) (d : ℕ × ℕ) (es rest : Entries) (next : After V) (j : Judged)
      (r : Option ℕ)
      → next ≡ comes_to w a x o rest j
      → judges w a x o d es next r ≡ comes_to w a x o (left_one d es rest r) (judged_one d j r)
  one w a x o d es rest next j None e = refl
  one w a x o d es rest next j (Some v) e = fresh w a x o d v es rest next j (d.1 == v) e

  pub is_judged : IsJudged V
  is_judged w a x o [] = refl
  is_judged w a x o (d ∷ es) =
      one w a x o d es (left_after (actor_of w a).reads es) (loads w a x o es) (judged (actor_of w a).reads es)
      (lookup (actor_of w a).reads d.0)
      (is_judged w a x o es)

  -- also where the first location was loaded with the copied edition
  pub found_fresh : (w : World V) (a : ℕ) (x : Seat V) (o : CallWithOutcome V) (d : ℕ × ℕ) (es : Entries) (v : ℕ) → d.1 ≡ v
      → has_loaded w a x o d es (notice.Number v) ≡ comes_to w a x o (left_after (actor_of w a).reads es) (judged (actor_of w a).reads es)
  found_fresh w a x o d es v same =
      cond-true (d.1 == v) (loads w a x o es) (gives_up w a (because x (refusal.Stale d.0 d.1 v)) []) (eq-eqb d.1 v same)
      ∙ is_judged w a x o es
