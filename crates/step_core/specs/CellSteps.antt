-- One atomic step of an actor on the clock, the lock words and the values.
use Rattle.std.specs.Prelude.{◌≡◌, ◌⊎◌, ℕ, ◌+◌, ◌<◌, ◌≤◌, Option, Result, get_or, length}
use Rattle.vlock_word.specs.LockWord.{unbits}
use Rattle.tx_machine.specs.Actor.{clock_limit}
use Rattle.tx_machine.specs.World.{World, Step, happens}
use Rattle.tx_machine.specs.Notices.{notice}
use Rattle.step_core.specs.Answers.{result_of}
use Rattle.step_core.specs.Shown.{actor_of}
use Rattle.step_core.specs.Sound.{owed}
use Rattle.step_core.specs.declared.actor.Actor.{Actor}
use Rattle.step_core.specs.declared.answer.WordAnswer.{WordAnswer}
use Rattle.step_core.specs.declared.answer.WordRefusal.{WordRefusal}
use Rattle.step_core.specs.declared.cells.Cells.{Cells}

-- the world s of the machine has these cells
pub record AreCells (w : Cells) (s : World) : Type 0 where
  pub clock : s.clock ≡ w.clock
  pub locks : (l : ℕ) → s.locks l ≡ unbits (get_or w.locks.items l 0)
  pub values : (l : ℕ) → s.values l ≡ get_or w.values.items l 0

-- In every world with the cells w, of which x is an actor, the next step of x leaves the cells t and the actor y, and answers r.
abbrev pub StepsOn : Cells → Actor → Cells → Actor → Result (Option WordAnswer) WordRefusal → Type 0
StepsOn w x t y r =
    (s : World) (a : ℕ) → AreCells w s → s.actors a ≡ actor_of x
    → AreCells t (happens s (Step a)) × ((happens s (Step a)).actors a ≡ actor_of y)
    × (r ≡ result_of (notice s (s.actors a) (s.actors a).place))

-- as many lock words and values as before
abbrev pub HaveLength : Cells → Cells → Type 0
HaveLength w t = (length t.locks.items ≡ length w.locks.items) × (length t.values.items ≡ length w.values.items)

-- and the same clock
abbrev pub IsLike : Cells → Cells → Type 0
IsLike w t = HaveLength w t × (t.clock ≡ w.clock)

-- The clock, with the numbers that the actor may still take, does not grow; or the actor may take its first one, at a clock below the
-- limit.
abbrev pub Grows : Cells → Actor → Cells → Actor → Type 0
Grows w x t y = (t.clock + owed y.place ≤ w.clock + owed x.place) ⊎ ((t.clock ≡ w.clock) × (w.clock < clock_limit))
