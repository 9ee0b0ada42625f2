-- The tries of a request on a gate, turn by turn.
use Rattle.std.specs.Prelude.{◌≡◌, ◌≢◌, ℕ, ◌+◌, List, [], ◌∷◌, ◌++◌, Some, length}
use Rattle.seq_model.specs.declared.event.Event.TheVariants.{Step}
use Rattle.actor_laws.specs.Gates.{Tries}
use Rattle.replay_log.specs.Seats.{World}
use Rattle.replay_log.specs.WorldCalls.{gate_tries}
use Rattle.replay_log.specs.WorldTries.{InVain}
use Rattle.shared_table.specs.declared.seat.Seat.{Seat}
use Rattle.shared_table.specs.Seated.{actor, view}
use Rattle.shared_table.specs.Turns.{asked_all, lone, took}
use Rattle.shared_table.specs.declared.view.Turn.{Turn}
use Rattle.tx_turns.specs.Driven.{IsTurnFrom}

module _ {V : Type 0} where
  -- From w, the world with a alone, on, each of these turns tries the gate of k, and finds its word not free.
  abbrev pub AreVain : (a k : ℕ) → World V → List (Turn V) → Type 0
  AreVain a k w [] = Unit {0}
  AreVain a k w (turn ∷ turns) = Tries (asked_all a w turn.asks) a k × (turn.found ≢ 0) × AreVain a k (took a w turn) turns

  -- Between the seats s and u the gate of k was tried as often as a request tries it, one turn after another, and never found free. The
  -- last try was a step from a world that events have reached, in which another held the gate; and in these events the last steps of the
  -- actor, as many, all tried it, and found another's.
  pub record WasTriedInVain (o : World V) (s u : Seat V) (k : ℕ) : Type 0 where
    pub world : World V
    pub last : IsTurnFrom o s u world
    pub due : Tries world (actor s) k
    pub taken : (b : ℕ) × (world.boosted.gates k ≡ Some b) × (b ≢ actor s)
    pub first : List (Turn V)
    pub tries : List (Turn V)
    pub before : last.before ≡ first ++ tries
    pub count : length tries + 1 ≡ gate_tries
    pub vain : AreVain (actor s) k (lone (actor s) o ((view s).turns ++ first)) tries
    pub steps : InVain o (last.events ++ Step (actor s) ∷ []) (actor s) k gate_tries
