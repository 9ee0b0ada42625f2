-- What one atomic step on the table asks of a seat, and what it leaves.
use Rattle.std.specs.Prelude.{◌≡◌, ℕ, ◌+◌, ◌<◌, ◌≤◌, ◌^◌, ◌==◌, if◌then◌else◌, None, Option, Result}
use Rattle.shared_table.specs.Shown.{highest_clock}
use Rattle.tx_machine.specs.Cells.{ClockCell, LockCell, ValueCell}
use Rattle.replay_log.specs.Seats.{World}
use Rattle.actor_laws.specs.StepTargets.{Spot, Nowhere, Word}
use Rattle.shared_table.specs.declared.seat.Seat.{Seat}
use Rattle.shared_table.specs.Turns.{spot}
use Rattle.shared_table.specs.Seated.{Takes, actor, acts, out, turned, view}
use Rattle.tx_machine.specs.World.{plan}
use Rattle.step_core.specs.Shown.{actor_of}
use Rattle.step_core.specs.declared.actor.Actor.{Actor}
use Rattle.step_core.specs.declared.answer.WordAnswer.{WordAnswer}
use Rattle.step_core.specs.declared.answer.WordRefusal.{WordRefusal}
use Rattle.tx_turns.specs.NextStep.{IsDeed, Learns}
use Rattle.tx_turns.specs.declared.due.NextStep.{NextStep}
use Rattle.tx_turns.specs.declared.due.NextStep.TheVariants as due

-- the word that it touches
abbrev pub spot_due : NextStep → Spot
spot_due due.Nothing = Nowhere
spot_due due.LoadClock = Word ClockCell
spot_due due.AddToClock = Word ClockCell
spot_due (due.LoadLock l) = Word (LockCell l)
spot_due (due.LoadValue l) = Word (ValueCell l)
spot_due (due.Lock l old) = Word (LockCell l)
spot_due (due.StoreValue l v) = Word (ValueCell l)
spot_due (due.StoreLock l w) = Word (LockCell l)

-- and what it makes of the number there
abbrev pub changed : NextStep → ℕ → ℕ
changed due.AddToClock n = n + 1
changed (due.Lock l old) n = if n == old then old + 1 else n
changed (due.StoreValue l v) n = v
changed (due.StoreLock l w) n = w
changed d n = n

-- a store learns nothing of what it found
abbrev pub Finds : NextStep → (told found : ℕ) → Type 0
Finds (due.StoreValue l v) m n = Unit {0}
Finds (due.StoreLock l w) m n = Unit {0}
Finds d m n = m ≡ n

-- what the seat knows of the clock once it found it so
abbrev pub IsClock : NextStep → (found clock : ℕ) → Type 0
IsClock due.LoadClock n k = k ≡ n
IsClock due.AddToClock n k = (k ≡ n + 1) × (n ≤ highest_clock)
IsClock d n k = Unit {0}

-- the number after an old one is within a word
abbrev pub IsInWord : NextStep → Type 0
IsInWord (due.Lock l old) = old + 1 < 2 ^ 64
IsInWord d = Unit {0}

module _ {V : Type 0} where
  -- in the lone world of the seat's actor, at a table that opened with o, this is what the next step does
  pub record Awaits (o : World V) (s : Seat V) (d : NextStep) : Type 0 where
    pub spot : spot (actor s) (acts o s) ≡ spot_due d
    pub becomes : (k : ℕ) → turned (actor s) (acts o s) k ≡ changed d k

  -- the seat has taken that step, and learnt n
  pub record Touches (o : World V) (s : Seat V) (d : NextStep) (n : ℕ) (t : Seat V) : Type 0 where
    pub clock : ℕ
    pub found : ℕ
    pub takes : Takes o s clock found None (out s) t
    pub finds : Finds d n found
    pub rises : (view s).clock ≤ clock
    pub clocks : IsClock d n clock

  -- what is next for the word actor x is what the lone world of the seat's actor does next
  abbrev pub IsNext : World V → Seat V → Actor → Type 0
  IsNext o s x = (d : NextStep) → IsDeed d (plan (actor_of x) (actor_of x).place) → Awaits o s d

  -- The seat has taken the step that was next for the word actor x, which by the number that was learnt is y, and answers r.
  pub record StepsWords (o : World V) (s : Seat V) (x : Actor) (t : Seat V) (y : Actor) (r : Result (Option WordAnswer) WordRefusal)
      : Type 0 where
    pub due : NextStep
    pub number : ℕ
    pub deed : IsDeed due (plan (actor_of x) (actor_of x).place)
    pub touches : Touches o s due number t
    pub learns : Learns x number y r
