-- What a request or a step keeps of an actor, besides what it shows: the bounds and the room that the steps on the words ask for, the call
-- that is under way, and the numbers that are still to come.
use Rattle.std.specs.Prelude.{◌≡◌, ℕ, ◌<◌, ◌≤◌, List, [], ◌∷◌, Some, length}
use Rattle.std.specs.List.{All}
use Rattle.step_core.specs.Sound.{Fits, owed}
use Rattle.conflict.specs.declared.outcome.Outcome.{Outcome}
use Rattle.replay_log.specs.Contents.{end_of, first_of}
use Rattle.tx_sets.specs.Entries.{Entries}
use Rattle.tx_machine.specs.Notices as notice
use Rattle.actor_parts.specs.Blocks.{BlocksView}
use Rattle.actor_parts.specs.declared.copies.PrivateCopy.{PrivateCopy}
use Rattle.actor_parts.specs.declared.copies.CopyOfCollection.{CopyOfCollection}
use Rattle.actor_parts.specs.CopyList.{copy_of}
use Rattle.tx_actor.specs.Answers.{HasRoomToLoad}
use Rattle.tx_actor.specs.LoadInWorld.{IsCallOn}
use Rattle.tx_actor.specs.declared.actor.CallWithOutcome as running
use Rattle.tx_actor.specs.Dispatch.{HasRoom}
use Rattle.tx_actor.specs.declared.actor.Stage.{Stage}
use Rattle.tx_actor.specs.declared.actor.Stage.TheVariants as stage
use Rattle.tx_actor.specs.declared.actor.TxActor.{TxActor}

module _ {V : Type 0} where
  -- the collections that a stage names are among the first n
  abbrev pub NamesAmong : ℕ → Stage V → Type 0
  NamesAmong n (stage.Trying asked tries) = asked.collection < n
  NamesAmong n (stage.Copying asked) = asked.collection < n
  NamesAmong n (stage.Loading o left) = o.asked.collection < n
  NamesAmong n (stage.Locking homes) = All (λ k. k < n) homes.items
  NamesAmong n (stage.Gating homes got tries) = All (λ k. k < n) homes.items
  NamesAmong n (stage.Ready homes) = All (λ k. k < n) homes.items
  NamesAmong n (stage.Storing homes) = All (λ k. k < n) homes.items
  NamesAmong n (stage.Homing homes) = All (λ k. k < n) homes.items
  NamesAmong n (stage.Returning homes) = All (λ k. k < n) homes.items
  NamesAmong n (stage.ReturningOne k) = k < n
  NamesAmong n s = Unit {0}

-- A call whose locations are read stands on the copy of its collection among these, which begins where v says; what is still to be read,
-- and what it writes, are locations of v.
pub record IsCallOf {V : Type 0} (v : BlocksView) (cs : List (CopyOfCollection V)) (o : running.CallWithOutcome V) (left : Entries) : Type
    0 where
  pub reads : All (λ d. d.0 < end_of v.words v.blocks) left
  pub writes : All (λ d. d.0 < end_of v.words v.blocks) o.writes.items
  pub copy : PrivateCopy V
  pub at : copy_of cs o.asked.collection ≡ Some copy
  pub answer : Outcome V
  pub call_on : IsCallOn (first_of v.words v.blocks o.asked.collection) copy o answer

-- the call that is under way, if there is one
abbrev pub IsCallAt : {V : Type 0} → BlocksView → List (CopyOfCollection V) → Stage V → Type 0
IsCallAt {V} v cs (stage.Loading o left) = IsCallOf v cs o left.items
IsCallAt {V} v cs s = Unit {0}

-- An actor of a world whose locations are laid out as v says, whatever it shows: what its steps ask of its own record.
pub record IsRunning {V : Type 0} (v : BlocksView) (r : TxActor V) : Type 0 where
  pub fits : Fits (end_of v.words v.blocks) r.words
  pub room : HasRoom r r.stage
  pub names : NamesAmong (length v.blocks) r.stage
  pub call : IsCallAt v r.copies.items r.stage

-- u is one where r is, and owes no more numbers
pub record KeepsIn {V : Type 0} (v : BlocksView) (r u : TxActor V) : Type 0 where
  pub running : IsRunning v r → IsRunning v u
  pub owed : owed u.words.place ≤ owed r.words.place

-- What a call that continues asks of its idle actor, with these locations to be judged: it names a collection of v, stands on its copy, and
-- there is room to read them all.
pub record CanGoOn {V : Type 0} (v : BlocksView) (r : TxActor V) (o : running.CallWithOutcome V) (es : Entries) : Type 0 where
  pub named : o.asked.collection < length v.blocks
  pub call : IsCallOf v r.copies.items o es
  pub room : HasRoomToLoad r.words es (length o.writes.items)

-- there is a location to be read
abbrev pub IsSome : Entries → Type 0
IsSome [] = ⊥
IsSome (d ∷ es) = Unit {0}

module _ {V : Type 0} where
  -- the first location is read, and the others are to be judged
  abbrev pub CanGoOnBehind : BlocksView → TxActor V → running.CallWithOutcome V → Entries → Type 0
  CanGoOnBehind v r o [] = ⊥
  CanGoOnBehind v r o (d ∷ es) = CanGoOn v r o es

  -- What a step of the load of a call's location leaves of r, which answered n: where an edition was read the call can continue, and where
  -- the location has moved it is aborted; else all is as it was.
  abbrev pub HeardAt : BlocksView → TxActor V → Stage V → notice.Notice → Type 0
  HeardAt v r (stage.Loading o left) (notice.Number e) = CanGoOnBehind v r o left.items
  HeardAt v r (stage.Loading o left) (notice.Moved l word) = IsSome left.items
  HeardAt v r s n = HasRoom r s × NamesAmong (length v.blocks) s × IsCallAt v r.copies.items s

-- An actor of a world that is laid out as v says, whose word actor has taken a step of a load, which answered n.
pub record HasHeard {V : Type 0} (v : BlocksView) (r : TxActor V) (n : notice.Notice) : Type 0 where
  pub fits : Fits (end_of v.words v.blocks) r.words
  pub heard : HeardAt v r r.stage n

-- u is an actor of v where r has heard n there, and owes no more numbers
pub record KeepsHeard {V : Type 0} (v : BlocksView) (r u : TxActor V) (n : notice.Notice) : Type 0 where
  pub running : HasHeard v r n → IsRunning v u
  pub owed : owed u.words.place ≤ owed r.words.place
