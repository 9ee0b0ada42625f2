-- What a call leaves of its actor depends on no stage of it (`gone_at`). Where a load answered nothing of use, or reads for no call, all is
-- as it was (`else_loaded`, `apart_loaded`).
use Rattle.std.proofs.Common.{◌≡◌, ℕ, [], ◌∷◌, None, refl, sym, subst}
use Rattle.std.specs.declared.alloc.Global.{Global}
use Rattle.std.specs.declared.collections.VecDeque.{VecDeque}
use Rattle.tx_sets.specs.Entries.{Entries}
use Rattle.tx_machine.specs.Notices as notice
use Rattle.actor_parts.specs.declared.judged.Judged.{Judged}
use Rattle.actor_parts.specs.declared.judged.Judged.TheVariants.{All, Next, Stale}
use Rattle.actor_parts.specs.declared.notice.WordNotice.{WordNotice}
use Rattle.actor_parts.specs.declared.notice.WordNotice.TheVariants.{Number, Moved}
use Rattle.actor_parts.specs.Dispatch.{shown_notice}
use Rattle.tx_actor.specs.declared.actor.CallWithOutcome as running
use Rattle.tx_actor.specs.declared.actor.Stage.{Stage}
use Rattle.tx_actor.specs.declared.actor.Stage.TheVariants as stage
use Rattle.tx_actor.specs.declared.actor.ActorNotice.{ActorNotice}
use Rattle.tx_actor.specs.declared.actor.TxActor.{TxActor}
use Rattle.tx_actor.specs.CopiesByStage.{HasGone, HasLoaded, IsAsBefore}
use Rattle.tx_actor.specs.LoadStep.{first_entry}
use Rattle.tx_actor.specs.Running.{at}

pub first_none : (es : Entries) → first_entry es ≡ None → es ≡ []
first_none [] none = refl
first_none (d ∷ es) none = let h : ⊥ = cc in absurd h

module _ {V : Type 0} where
  pub gone_at : (j : Judged) (r u : TxActor V) (t : ActorNotice V) (o : running.CallWithOutcome V) (es : Entries) (s : Stage V)
      → HasGone j r u t o es
      → HasGone j (at r s) u t o es
  gone_at All r u t o es s h = record { stage = h.stage; at = h.at; own = h.own; told = h.told }
  gone_at (Next l) r u t o es s h =
      record { left = h.left; stage = h.stage; items = h.items; copies = h.copies; calls = h.calls; told = h.told }
  gone_at (Stale l b v) r u t o es s h = h

  pub else_loaded : (r u : TxActor V) (t : ActorNotice V) (o : running.CallWithOutcome V) (left : VecDeque (ℕ × ℕ) Global) (h : WordNotice)
      → ((v : ℕ) → h ≡ Number v → ⊥) → ((i j : ℕ) → h ≡ Moved i j → ⊥) → IsAsBefore r u t
      → HasLoaded r u t (stage.Loading o left) (shown_notice h)
  else_loaded r u t o left (Number v) p q is = absurd (p v refl)
  else_loaded r u t o left (Moved i j) p q is = absurd (q i j refl)
  else_loaded r u t o left h p q is = is

  pub apart_loaded : (r u : TxActor V) (t : ActorNotice V) (s : Stage V) (n : notice.Notice)
      → ((o : running.CallWithOutcome V) (left : VecDeque (ℕ × ℕ) Global) → s ≡ stage.Loading o left → ⊥) → IsAsBefore r u t
      → HasLoaded r u t s n
  apart_loaded r u t (stage.Loading o left) n p is = absurd (p o left refl)
  apart_loaded r u t s n p is = is

  loaded_nothing : (r u : TxActor V) (t : ActorNotice V) (s : Stage V) → IsAsBefore r u t → HasLoaded r u t s notice.Quiet
  loaded_nothing r u t (stage.Loading o left) is = is
  loaded_nothing r u t s is = is

  pub loaded_quiet : (r u : TxActor V) (t : ActorNotice V) (n : notice.Notice) → n ≡ notice.Quiet → IsAsBefore r u t
      → HasLoaded r u t r.stage n
  loaded_quiet r u t n nothing is =
      subst (λ (q : notice.Notice). HasLoaded r u t r.stage q) (sym nothing) (loaded_nothing r u t r.stage is)

  -- r is at this stage, and was answered this
  pub loaded_at : (r u : TxActor V) (t : ActorNotice V) (s : Stage V) (n m : notice.Notice) → r.stage ≡ s → n ≡ m
      → HasLoaded (at r s) u t s n → HasLoaded r u t r.stage m
  loaded_at r u t s n m e f h =
      subst (λ (q : notice.Notice). HasLoaded r u t r.stage q) f
      (subst (λ (z : Stage V). HasLoaded (at r z) u t z n) (sym e) h)
