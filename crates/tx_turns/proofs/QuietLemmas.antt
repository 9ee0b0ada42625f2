-- A step on the words that answered nothing leaves an actor as its word actor left it, where its stage waits for the answer.
use Rattle.std.proofs.Common.{◌≡◌, ℕ, true, true≢false, [], ◌∷◌, length, refl, sym, subst}
use Rattle.tx_sets.specs.Entries.{Entries}
use Rattle.tx_machine.specs.Notices as notice
use Rattle.seq_model.specs.declared.event.Notice.TheVariants.{Quiet}
use Rattle.replay_log.specs.Contents as contents
use Rattle.replay_log.specs.Seats as worlds
use Rattle.replay_log.specs.Seats.{World, After, Seat}
use Rattle.actor_parts.specs.Blocks.{BlocksView}
use Rattle.actor_parts.specs.Dispatch.{after_word}
use Rattle.tx_actor.specs.Dispatch.{HasRoom, IsToldWord, waits_at}
use Rattle.tx_actor.specs.CopiesByStage.{HasLoaded}
use Rattle.tx_actor.specs.ActorBounds.{HasHeard, HeardAt, IsCallAt, IsRunning, NamesAmong}
use Rattle.tx_actor.specs.LoadStep.{IsToldLoad, after_load}
use Rattle.tx_actor.specs.Running.{Runs, notice_of, outcome_in, seat_at, seat_of, stage_in, stage_of, with_outcome}
use Rattle.tx_actor.specs.declared.actor.Stage.{Stage}
use Rattle.tx_actor.specs.declared.actor.Stage.TheVariants as stage
use Rattle.tx_actor.specs.declared.actor.ActorNotice.TheVariants as told
use Rattle.tx_actor.specs.declared.actor.TxActor.{TxActor}

module _ {V : Type 0} where
  nothing_comes : (r : TxActor V) (a : ℕ) (w : World V) (p : After V) → p ≡ (w, Quiet) → Runs a r w
      → Runs a r p.0 × (notice_of a told.Quiet ≡ p.1)
  nothing_comes r a w p e runs = subst (λ (z : After V). Runs a r z.0 × (notice_of a told.Quiet ≡ z.1)) (sym e) (runs, refl)

  waits_on : (w : World V) (a : ℕ) (x : Seat V) (s : Stage V) → waits_at s ≡ true → after_word w a x (stage_of s) notice.Quiet ≡ (w, Quiet)
  waits_on w a x (stage.Reading l) waits = refl
  waits_on w a x (stage.Locking ks) waits = refl
  waits_on w a x stage.Releasing waits = refl
  waits_on w a x stage.Cancelling waits = refl
  waits_on w a x s waits = absurd (true≢false (sym waits))

  pub word_waits : (r : TxActor V) (n : notice.Notice) → n ≡ notice.Quiet → waits_at r.stage ≡ true → IsToldWord r r told.Quiet n
  word_waits r n nothing waits =
      subst (λ (q : notice.Notice). IsToldWord r r told.Quiet q) (sym nothing)
      (λ a w may runs. nothing_comes r a w _ (waits_on w a (seat_at (w.seats a) r) r.stage waits) runs)

  -- ---- while the locations of a call are read
  load_told : (w : World V) (a : ℕ) (x : Seat V) (o : contents.CallWithOutcome V) (es : Entries)
      → after_load w a x (worlds.Loading o es) notice.Quiet ≡ (w, Quiet)
  load_told w a x o [] = refl
  load_told w a x o (d ∷ es) = refl

  load_stage : (w : World V) (a : ℕ) (x : Seat V) (st : worlds.Stage V) (s : Stage V)
      → after_load w a x (stage_in st s) notice.Quiet ≡ (w, Quiet)
  load_stage w a x st (stage.Loading o left) = load_told w a x (with_outcome o (outcome_in st)) left.items
  load_stage w a x st s = refl

  pub load_waits : (r : TxActor V) (n : notice.Notice) → n ≡ notice.Quiet → IsToldLoad r r told.Quiet n
  load_waits r n nothing =
      subst (λ (q : notice.Notice). IsToldLoad r r told.Quiet q) (sym nothing)
      (λ a w may runs. nothing_comes r a w _ (load_stage w a (seat_of r) (w.seats a).stage r.stage) runs)

  heard_stage : (v : BlocksView) (r : TxActor V) (s : Stage V) → HeardAt v r s notice.Quiet
      → HasRoom r s × NamesAmong (length v.blocks) s × IsCallAt v r.copies.items s
  heard_stage v r (stage.Loading o left) is = is
  heard_stage v r s is = is

  pub load_running : (v : BlocksView) (r : TxActor V) (n : notice.Notice) → n ≡ notice.Quiet → HasHeard v r n → IsRunning v r
  load_running v r n nothing h =
      let q = subst (λ (q : notice.Notice). HeardAt v r r.stage q) nothing h.heard in
      let s = heard_stage v r r.stage q in
      record { fits = h.fits; room = s.0; names = s.1; call = s.2 }

  before_stage : (r : TxActor V) (s : Stage V) → HasLoaded r r told.Quiet s notice.Quiet
  before_stage r (stage.Loading o left) = (refl, refl)
  before_stage r s = (refl, refl)

  pub load_leaves : (r : TxActor V) (n : notice.Notice) → n ≡ notice.Quiet → HasLoaded r r told.Quiet r.stage n
  load_leaves r n nothing =
      subst (λ (q : notice.Notice). HasLoaded r r told.Quiet r.stage q) (sym nothing) (before_stage r r.stage)
