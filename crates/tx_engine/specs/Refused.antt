-- What an aborted transaction leaves.
use Rattle.std.specs.Prelude.{◌≡◌, ◌⊎◌, ℕ, ◌<◌, List, [], ◌∷◌, ◌++◌, Some}
use Rattle.vlock_word.specs.declared.lock_word.LockWord.TheVariants.{Free, Locked}
use Rattle.tx_sets.specs.Entries.{lookup}
use Rattle.tx_machine.specs.World.{put}
use Rattle.seq_model.specs.declared.event.Answer.TheVariants.{Aborted}
use Rattle.seq_model.specs.declared.event.Event.{Event}
use Rattle.seq_model.specs.declared.event.Event.TheVariants.{Step}
use Rattle.seq_model.specs.declared.refusal.Refusal.{Refusal}
use Rattle.seq_model.specs.declared.refusal.Refusal.TheVariants.{Moved, Busy, Stale, GateBusy, Invalid, Memory as OutOfMemory}
use Rattle.replay_log.specs.Seats.{World, Idle, actor_of}
use Rattle.replay_log.specs.Worlds.{happens, run}
use Rattle.replay_log.specs.WorldAnswers.{Untouched}
use Rattle.actor_laws.specs.Own.{Alike}
use Rattle.tx_actor.specs.Running.{notice_of}
use Rattle.tx_actor.specs.declared.actor.ActorNotice.{ActorNotice}
use Rattle.tx_actor.specs.declared.actor.ActorNotice.TheVariants.{Answered, Refused}
use Rattle.shared_table.specs.declared.seat.Seat.{Seat}
use Rattle.shared_table.specs.Seated.{actor, view}
use Rattle.shared_table.specs.Turns.{asked_all, lone, stage_of, took}
use Rattle.shared_table.specs.declared.view.Turn.{Turn}
use Rattle.tx_turns.specs.Begins.{begins_taken}
use Rattle.tx_turns.specs.Driven.{IsTurnFrom}

-- the causes for which a transaction is aborted
abbrev pub IsGivenUpFor : Refusal → Type 0
IsGivenUpFor (Moved location word) = Unit {0}
IsGivenUpFor (Busy location word) = Unit {0}
IsGivenUpFor (Stale location base word) = Unit {0}
IsGivenUpFor (GateBusy collection) = Unit {0}
IsGivenUpFor (Invalid location word) = Unit {0}
IsGivenUpFor OutOfMemory = Unit {0}
IsGivenUpFor cause = ⊥

module _ {V : Type 0} where
  -- such a cause was answered, or that the transaction was aborted
  abbrev pub IsEndTold : ActorNotice V → Type 0
  IsEndTold (Refused cause) = IsGivenUpFor cause
  IsEndTold (Answered Aborted) = Unit {0}
  IsEndTold n = ⊥

  -- The step of a from the world v changes no value and no base. Each lock that a holds is locked there at its old version; the step leaves
  -- it to a, or frees it at that version and changes no other lock.
  pub record GivesBack (a : ℕ) (v : World V) : Type 0 where
    pub untouched : Untouched v (happens v (Step a)).0
    pub locked : (l k : ℕ) → lookup (actor_of v a).held l ≡ Some k → v.boosted.words.locks l ≡ Locked k
    pub back :
        (l k : ℕ) → lookup (actor_of v a).held l ≡ Some k
        → (lookup (actor_of (happens v (Step a)).0 a).held l ≡ Some k)
        ⊎ ((happens v (Step a)).0.boosted.words.locks ≡ put v.boosted.words.locks l (Free k))

  -- So it is of each of these turns, from w, the world with a alone, on, in every world that events reach from the opening o and that is
  -- the same to a.
  abbrev pub AllGiveBack : World V → ℕ → World V → List (Turn V) → Type 0
  AllGiveBack o a w [] = Unit {0}
  AllGiveBack o a w (turn ∷ turns) =
      ((events : List (Event V)) → Alike a (run o events) (asked_all a w turn.asks) → GivesBack a (run o events))
      × AllGiveBack o a (took a w turn) turns

  -- One of the turns between the seats s and u answered this, and its actor held no lock any more. It and the turns before it, from s on,
  -- or since the actor was idle and asked to begin, change no value and no base, and give each lock back as it was.
  pub record GaveUp (o : World V) (s u : Seat V) (n : ActorNotice V) : Type 0 where
    pub world : World V
    pub last : IsTurnFrom o s u world
    pub told : (happens world (Step (actor s))).1 ≡ notice_of (actor s) n
    pub bare : (actor_of world (actor s)).held ≡ []
    pub earlier : List (Turn V)
    pub turns : List (Turn V)
    pub before : last.before ≡ earlier ++ turns
    pub since :
        (earlier ≡ [])
        ⊎ ((stage_of (lone (actor s) o ((view s).turns ++ earlier)) (actor s) ≡ Idle) × (0 < begins_taken (turns ++ last.turn ∷ [])))
    pub gave_back : AllGiveBack o (actor s) (lone (actor s) o ((view s).turns ++ earlier)) (turns ++ last.turn ∷ [])

  -- so it was of a transaction that was refused for this cause; where an allocation failed as its request was asked, it was aborted
  abbrev pub GaveUpFor : World V → Seat V → Seat V → Refusal → Type 0
  GaveUpFor o s u cause = GaveUp o s u (Refused cause) ⊎ ((cause ≡ OutOfMemory) × GaveUp o s u (Answered Aborted))
