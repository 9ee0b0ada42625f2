-- What holds of the running words, by whatever schedule they were reached.
use Rattle.std.specs.Prelude.{◌≡◌, ℕ, ◌<◌, ◌≢◌, List, [], Option, Some, None, Result, Ok, get_or}
use Rattle.tx_sets.specs.Entries.{lookup}
use Rattle.tx_machine.specs.Actor.{Actor, Begin, Open}
use Rattle.tx_machine.specs.Notices.{notice}
use Rattle.tx_machine.specs.Refusals.{IsTrue, NamesPlace, IsEnding}
use Rattle.step_core.specs.Answers.{result_of}
use Rattle.tx_machine.specs.World.{Memory, World, Event, run, start, in_order}
use Rattle.tx_machine.specs.Opacity.{IsRun, IsInOrder, IsLegal, IsHalfDone, AllEnded, AllUpto, NoWriterHas, memory_after, memory_at, upto}
use Rattle.tx_machine.specs.Progress.{steps_left}
use Rattle.step_core.specs.declared.answer.WordAnswer.{WordAnswer}
use Rattle.step_core.specs.declared.answer.WordRefusal.{WordRefusal}
use Rattle.step_core.specs.Shown.{Shown, shown, actor_in, Reached}
use Rattle.step_core.specs.Sound.{Sound}
use Rattle.step_core.specs.declared.words.Words.TheInside.{Inside}

-- what callers see of the fields
abbrev pub shown_in : Inside → Shown
shown_in w = shown w.machine

-- What every value of the running words is.
pub record IsHeld (w : Inside) : Type 0 where
  pub sound : Sound w.machine
  pub reached : Reached (shown w.machine)

-- the world that a schedule reached
abbrev pub world_of : (v : Shown) → Reached v → World
world_of v r = run r.events (start r.clock r.opening)

-- the words after the committed transactions with a number of at most n
abbrev pub words_at : Memory → Shown → ℕ → Memory
words_at opening v n = memory_after opening (upto n (in_order [] v.history))

-- this is what the next step of x answers; it is true, and names the place of x if it is a refusal for a conflict
abbrev pub IsAnswerOf : World → Actor → Result (Option WordAnswer) WordRefusal → Type 0
IsAnswerOf s x answer = let n = notice s x x.place in (answer ≡ result_of n) × IsTrue s x x.place n × NamesPlace x.place n

-- no commit has stored a value and still holds a lock
abbrev pub IsAtRest : Shown → Type 0
IsAtRest v = (a : ℕ) → IsHalfDone (actor_in v a).place → ⊥

-- The calls of actor a's transaction are legal at the words of number n, and remain so whatever happens later, also if it then commits.
pub record Saw (v : Shown) (a n : ℕ) : Type 0 where
  pub now : (r : Reached v) → IsLegal (words_at r.opening v n) (actor_in v a).calls
  pub later : (r : Reached v) (events : List Event) → IsLegal (memory_at (run events (world_of v r)) n) (actor_in v a).calls

-- Opacity. The history, in the order of its numbers, is a run of the words from the opening ones, and leaves the words that stand there
-- if no commit is half done. Each transaction, open, committed or aborted, saw the words of the number at which it began.
pub record Opaque (v : Shown) : Type 0 where
  pub reached : Reached v
  pub ordered : IsInOrder (in_order [] v.history)
  pub serial : (r : Reached v) → IsRun r.opening (in_order [] v.history)
  pub words : (r : Reached v) → IsAtRest v → (l : ℕ) → get_or v.values l 0 ≡ memory_after r.opening (in_order [] v.history) l
  pub saw : (a : ℕ) → Saw v a (actor_in v a).rv
  pub aborted : (r : Reached v) (later : List Event)
      → let s = world_of v r in AllEnded (λ e. IsLegal (memory_at (run later s) e.rv) e.calls) s.aborted

-- No record's number is above the clock, and the number of a commit that aborts is no writer's, now and at every later moment.
pub record AreNumbered (v : Shown) : Type 0 where
  pub upto : AllUpto v.clock (in_order [] v.history)
  pub unused : (r : Reached v) (a : ℕ) (later : List Event) → IsEnding (actor_in v a).place
      → NoWriterHas (actor_in v a).wv (run later (world_of v r)).history

-- A step of actor a leaves the records of the others, and each word that one of them holds, from its lock to its release.
pub record KeepsOthers (v : Shown) (a : ℕ) (u : Shown) : Type 0 where
  pub actors : (b : ℕ) → b ≢ a → actor_in u b ≡ actor_in v b
  pub words :
      (b l k : ℕ) → lookup (actor_in v b).held l ≡ Some k → b ≢ a → (get_or u.locks l 0 ≡ get_or v.locks l 0)
      × (get_or u.values l 0 ≡ get_or v.values l 0)

-- What a step of actor a answers is true of the words as they stood: a refusal names the location at which the actor stood and the word
-- that was there, and that word is a cause of it.
pub record HasCause (v : Shown) (a : ℕ) (answer : Result (Option WordAnswer) WordRefusal) : Type 0 where
  pub cause : (r : Reached v) → IsAnswerOf (world_of v r) (actor_in v a) answer

-- how many of its own steps the request of actor a takes at most; 0 where none is under way
abbrev pub steps_due : Shown → ℕ → ℕ
steps_due v a = steps_left (actor_in v a) (actor_in v a).place

-- A step brings its actor's request nearer to its answer: there are fewer to come, and some if this one brought no answer.
pub record Nears (v : Shown) (a : ℕ) (u : Shown) (r : Result (Option WordAnswer) WordRefusal) : Type 0 where
  pub fewer : 0 < steps_due v a → steps_due u a < steps_due v a
  pub more : r ≡ Ok None → 0 < steps_due u a

-- a transaction begins at a number that is not below any committed before
abbrev pub BeginsAbove : Shown → ℕ → Shown → Type 0
BeginsAbove v a u = (actor_in v a).place ≡ Begin → (actor_in u a).place ≡ Open → AllUpto (actor_in u a).rv (in_order [] v.history)
