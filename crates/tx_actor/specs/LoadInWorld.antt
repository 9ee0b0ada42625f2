-- A call whose locations are read, in a world that events have reached: where its last location is read with the copied edition, it may be
-- accepted, with the outcome that its actor's own copy answers.
use Rattle.std.specs.Prelude.{◌≡◌, ◌⊎◌, ℕ, true, List, [], ◌∷◌, Some}
use Rattle.tx_sets.specs.Entries.{Entries}
use Rattle.tx_machine.specs.Notices as notice
use Rattle.seq_model.specs.declared.event.Event.{Event}
use Rattle.seq_model.specs.declared.held.Held.{Held}
use Rattle.conflict.specs.declared.outcome.Outcome.{Outcome}
use Rattle.replay_log.specs.Contents.{Block, HaveStripes}
use Rattle.replay_log.specs.Worlds.{World, acted, actor_of, moves, opened, run, word_notice}
use Rattle.tx_actor.specs.declared.actor.CallWithOutcome as running
use Rattle.tx_actor.specs.declared.actor.Stage.{Stage}
use Rattle.tx_actor.specs.declared.actor.Stage.TheVariants as stage
use Rattle.tx_actor.specs.declared.actor.TxActor.{TxActor}
use Rattle.actor_parts.specs.declared.copies.PrivateCopy.{PrivateCopy}
use Rattle.actor_parts.specs.PrivateCopy.{answer_of, holds_call}
use Rattle.actor_parts.specs.Footprints.{writes_in}
use Rattle.actor_parts.specs.Judged.{left_after}
use Rattle.actor_parts.specs.LoadInWorld.{IsDoomed}
use Rattle.actor_parts.specs.CopyInWorld.{IsOwnCopy}
use Rattle.tx_actor.specs.LoadStep.{MayLoad}
use Rattle.tx_actor.specs.Running.{Runs}
use Rattle.actor_parts.specs.Writes.{with_next}

-- The call is one that this copy of its collection, whose first location is f, holds: it has the outcome that the copy answers, and writes
-- what that writes.
pub record IsCallOn {V : Type 0} (f : ℕ) (c : PrivateCopy V) (call : running.CallWithOutcome V) (o : Outcome V) : Type 0 where
  pub outcome : call.outcome ≡ Some o
  pub holds : holds_call c call.asked.op ≡ true
  pub answer : answer_of c call.asked.op ≡ Some o
  pub writes : call.writes.items ≡ with_next c f (writes_in c o)

-- In the world w the copy on which the call of a stands is a's own, or one of its locations was read with another edition.
pub record OwnsCall {V : Type 0} (w : World V) (a : ℕ) (call : running.CallWithOutcome V) (left : Entries) : Type 0 where
  pub block : Block
  pub first : ℕ
  pub copy : PrivateCopy V
  pub answer : Outcome V
  pub call_on : IsCallOn first copy call answer
  pub own : IsOwnCopy w a call.asked.collection block first copy ⊎ IsDoomed (actor_of w a).calls left

abbrev pub OwnsCallAt : {V : Type 0} → World V → ℕ → Stage V → Type 0
OwnsCallAt w a (stage.Loading call left) = OwnsCall w a call left.items
OwnsCallAt w a s = Unit {0}

-- So the load of a location may be heard, in every world that events have reached in which the call under way stands on the actor's own
-- copy; r has taken the step of the words already.
abbrev pub MayHear : Type 0 → Type 0
MayHear V =
    (blocks : List Block) (clock : ℕ) (values : List ℕ) (held : List (Held V)) (events : List (Event V)) (a : ℕ) (r : TxActor V)
    → HaveStripes blocks →
    let w = run (opened blocks clock values held) events in
    let u = acted w (moves a ∷ []) in
    Runs a r u → OwnsCallAt w a r.stage → MayLoad a u r r.stage (word_notice w a)

-- What is left of a call stands on the actor's own copy, as its call did, in each world with its shadow and its calls: after a load that
-- answered the copied edition those still to be judged, and after one that answered nothing all of them.
abbrev pub KeepsOne : {V : Type 0} → World V → ℕ → running.CallWithOutcome V → Entries → notice.Notice → Type 0
KeepsOne {V} u a call (d ∷ es) (notice.Number v) =
    d.1 ≡ v → (w : World V) → w.words ≡ u.words → w.blocks ≡ u.blocks → w.boosted.shadows a ≡ u.boosted.shadows a
    → (actor_of w a).calls ≡ (actor_of u a).calls → OwnsCall w a call (left_after (actor_of u a).reads es)
KeepsOne u a call (d ∷ es) notice.Quiet = OwnsCall u a call (d ∷ es)
KeepsOne u a call es n = Unit {0}

abbrev pub KeepsAt : {V : Type 0} → World V → ℕ → Stage V → notice.Notice → Type 0
KeepsAt u a (stage.Loading call left) n = KeepsOne u a call left.items n
KeepsAt u a s n = Unit {0}

abbrev pub KeepsCall : Type 0 → Type 0
KeepsCall V =
    (blocks : List Block) (clock : ℕ) (values : List ℕ) (held : List (Held V)) (events : List (Event V)) (a : ℕ) (r : TxActor V)
    → HaveStripes blocks →
    let w = run (opened blocks clock values held) events in
    let u = acted w (moves a ∷ []) in
    Runs a r u → OwnsCallAt w a r.stage → KeepsAt u a r.stage (word_notice w a)
