-- What a world makes of its seat does not depend on the outcome at the stage, but for an acceptance: at each stage but that of a load the
-- stage is the actor's own, and there a failed allocation, a moved location and a judging put another stage in its place.
use Rattle.std.proofs.Common.{◌≡◌, ◌==◌, ℕ, false, true≢false, cond, [], ◌∷◌, refl, sym, ap, ◌∙◌}
use Rattle.std.proofs.lemmas.Bool.{cond-false}
use Rattle.tx_sets.specs.Entries.{Entries}
use Rattle.tx_machine.specs.Notices as notice
use Rattle.seq_model.specs.declared.refusal.Refusal.TheVariants as refusal
use Rattle.replay_log.specs.Contents.{CallWithOutcome}
use Rattle.replay_log.specs.Worlds as worlds
use Rattle.replay_log.specs.Worlds.{World, Seat, After, actor_of, at_stage, because, gives_up, has_loaded, loads, starve_at}
use Rattle.tx_actor.specs.declared.actor.Stage.{Stage}
use Rattle.tx_actor.specs.declared.actor.Stage.TheVariants as stage
use Rattle.tx_actor.specs.declared.actor.TxActor.{TxActor}
use Rattle.actor_parts.specs.Dispatch.{is_loading, next_of}
use Rattle.actor_parts.specs.Judged.{judged, left_after}
use Rattle.tx_actor.specs.LoadStep.{after_load}
use Rattle.tx_actor.specs.Running.{at, is_recorded, outcome_in, seat_at, seat_in, seat_of, stage_in, stage_of, with_outcome}
use Rattle.tx_actor.specs.Seated.{SeatsActors}
use Rattle.actor_parts.proofs.JudgedLemmas.{is_judged}
use Rattle.tx_actor.proofs.LoadLemmas.{comes_at}
use Rattle.tx_actor.proofs.RunsLemmas.{seat_stage}

next_load_at : {V : Type 0} (st : worlds.Stage V) (s : Stage V) → next_of (stage_in st s) ≡ next_of (stage_of s)
next_load_at st (stage.Loading o left) = after left.items
  where
    after : (es : Entries) → next_of (worlds.Loading (with_outcome o (outcome_in st)) es)
        ≡ next_of (worlds.Loading (with_outcome o o.outcome) es)
    after [] = refl
    after (d ∷ es) = refl
next_load_at st s = refl

module _ {V : Type 0} where
  own_at : (st : worlds.Stage V) (s : Stage V) → is_loading (stage_of s) ≡ false → stage_in st s ≡ stage_of s
  own_at st (stage.Loading o left) e = absurd (true≢false e)
  own_at st s e = refl

  starve_seat : (w : World V) (a : ℕ) (x : Seat V) (r : TxActor V) (s : Stage V)
      → starve_at w a (seat_at x (at r s)) (seat_at x (at r s)).stage ≡ starve_at w a (seat_of (at r s)) (stage_of s)
  starve_seat w a x r (stage.Loading o left) = refl
  starve_seat w a x r (stage.Storing homes) = refl
  starve_seat w a x r (stage.Homing homes) = refl
  starve_seat w a x r stage.Releasing = refl
  starve_seat w a x r s = refl

  -- the load is judged whatever stage the seat has
  loads_at : (w : World V) (a : ℕ) (x : Seat V) (s : worlds.Stage V) (o : CallWithOutcome V) (es : Entries)
      → loads w a (at_stage x s) o es ≡ loads w a x o es
  loads_at w a x s o es =
      is_judged w a (at_stage x s) o es
      ∙ (comes_at w a x s o (left_after (actor_of w a).reads es) (judged (actor_of w a).reads es) ∙ sym (is_judged w a x o es))

  loaded_at : (w : World V) (a : ℕ) (x : Seat V) (s : worlds.Stage V) (o : CallWithOutcome V) (d : ℕ × ℕ) (es : Entries) (n : notice.Notice)
      → has_loaded w a (at_stage x s) o d es n ≡ has_loaded w a x o d es n
  loaded_at w a x s o d es (notice.Number v) =
      ap (λ (p : After V). cond (d.1 == v) p (gives_up w a (because x (refusal.Stale d.0 d.1 v)) [])) (loads_at w a x s o es)
  loaded_at w a x s o d es (notice.Moved i word) = refl
  loaded_at w a x s o d es n = refl

  after_at : (w : World V) (a : ℕ) (x : Seat V) (s t : worlds.Stage V) (n : notice.Notice)
      → after_load w a (at_stage x s) t n ≡ after_load w a x t n
  after_at w a x s (worlds.Loading o (d ∷ es)) n = loaded_at w a x s o d es n
  after_at w a x s t n = refl

  hear_seat : (w : World V) (a : ℕ) (x : Seat V) (r : TxActor V) (n : notice.Notice) (s : Stage V)
      → after_load w a (seat_at x (at r s)) (seat_at x (at r s)).stage n ≡ after_load w a (seat_of (at r s)) (stage_in x.stage s) n
  hear_seat w a x r n (stage.Loading o left) =
      let here = stage_in x.stage (stage.Loading o left) in
      after_at w a (seat_of (at r (stage.Loading o left))) here here n
  hear_seat w a x r n (stage.Storing homes) = refl
  hear_seat w a x r n (stage.Homing homes) = refl
  hear_seat w a x r n stage.Releasing = refl
  hear_seat w a x r n s = refl

  pub seats_actors : SeatsActors V
  seats_actors = record {
    next = λ a r w s.
        ap (λ (x : Seat V). next_of x.stage) s.0 ∙ (ap next_of (seat_stage (w.seats a) r) ∙ next_load_at (w.seats a).stage r.stage);
    own = λ a r w s e closed.
        s.0 ∙ (cond-false (is_recorded r.stage) _ (seat_in (w.seats a).stage r) closed
        ∙ ap (at_stage (seat_of r)) (own_at (w.seats a).stage r.stage e));
    starves = λ a r w s. ap (λ (x : Seat V). starve_at w a x x.stage) s.0 ∙ starve_seat w a (w.seats a) r r.stage;
    hears = λ a r w n s. ap (λ (x : Seat V). after_load w a x x.stage n) s.0 ∙ hear_seat w a (w.seats a) r n r.stage;
    loads = λ w a x o d es. refl;
  }
