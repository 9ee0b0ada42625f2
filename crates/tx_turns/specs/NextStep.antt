-- The step of the words that is next for an actor, and what it makes of the number that the step found.
use Rattle.std.specs.Prelude.{◌≡◌, ℕ, ◌+◌, ◌*◌, ◌<◌, ◌≤◌, ◌^◌, Option, Result, length}
use Rattle.vlock_word.specs.declared.lock_word.LockWord.TheVariants.{Free}
use Rattle.tx_machine.specs.Actor as machine
use Rattle.tx_machine.specs.Cells.{learns}
use Rattle.vlock_word.specs.declared.lock_word.LockWord.{LockWord}
use Rattle.tx_machine.specs.World.{Deed, Rests, LoadClock, AddToClock, LoadLock, LoadValue, ExchangeLock, StoreValue, StoreLock, plan}
use Rattle.actor_laws.specs.StepAnswers.{tells}
use Rattle.step_core.specs.Answers.{result_of}
use Rattle.step_core.specs.Shown.{actor_of}
use Rattle.step_core.specs.declared.actor.Actor.{Actor}
use Rattle.step_core.specs.declared.actor.Place.TheVariants.{Lock}
use Rattle.step_core.specs.declared.answer.WordAnswer.{WordAnswer}
use Rattle.step_core.specs.declared.answer.WordRefusal.{WordRefusal}
use Rattle.tx_turns.specs.declared.due.NextStep.{NextStep}
use Rattle.tx_turns.specs.declared.due.NextStep.TheVariants as due

-- this is the atomic step
abbrev pub IsDeed : NextStep → Deed → Type 0
IsDeed due.Nothing d = d ≡ Rests
IsDeed due.LoadClock d = (f : ℕ → machine.Actor) × (d ≡ LoadClock f)
IsDeed due.AddToClock d = (f : ℕ → machine.Actor) × (d ≡ AddToClock f)
IsDeed (due.LoadLock l) d = (f : LockWord → machine.Actor) × (d ≡ LoadLock l f)
IsDeed (due.LoadValue l) d = (f : ℕ → machine.Actor) × (d ≡ LoadValue l f)
IsDeed (due.Lock l old) d =
    (k : ℕ) × (won : machine.Actor) × (lost : machine.Actor) × (d ≡ ExchangeLock l k won lost) × (old ≡ 2 * k) × (k < 2 ^ 63)
IsDeed (due.StoreValue l v) d = (after : machine.Actor) × (d ≡ StoreValue l v after)
IsDeed (due.StoreLock l w) d = (k : ℕ) × (after : machine.Actor) × (d ≡ StoreLock l (Free k) after) × (w ≡ 2 * k)

-- it is at one of n locations
abbrev pub IsWithin : ℕ → NextStep → Type 0
IsWithin n (due.LoadLock l) = l < n
IsWithin n (due.LoadValue l) = l < n
IsWithin n (due.Lock l old) = l < n
IsWithin n (due.StoreValue l v) = l < n
IsWithin n (due.StoreLock l w) = l < n
IsWithin n d = Unit {0}

-- where x takes its number from the clock, the clock is far from its end
abbrev pub HasClock : ℕ → Actor → Type 0
HasClock found x = (i : ℕ) → x.place ≡ Lock i → length x.writes.entries ≤ i → found + 1 < 2 ^ 63

-- x becomes y by the number that its step found, which answers r
pub record Learns (x : Actor) (found : ℕ) (y : Actor) (r : Result (Option WordAnswer) WordRefusal) : Type 0 where
  pub actor : actor_of y ≡ learns (plan (actor_of x) (actor_of x).place) (actor_of x) found
  pub told : r ≡ result_of (tells (actor_of x) (actor_of x).place found)
