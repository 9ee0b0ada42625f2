-- Schedules in which one actor steps alone, and how far a request is from its answer.
use Rattle.std.specs.Prelude.{◌≡◌, ◌≢◌, ℕ, ◌+◌, ◌*◌, ◌⊎◌, ◌==◌, length, List, [], ◌∷◌, if◌then◌else◌}
use Rattle.vlock_word.specs.declared.lock_word.LockWord.{LockWord}
use Rattle.vlock_word.specs.declared.lock_word.LockWord.TheVariants.{Free, Locked}
use Rattle.tx_machine.specs.Actor.{Place, Begin, Look, Fetch, Again, Lock, Take, Check, First, Store, Release, Undo, Leave, Close, Actor}
use Rattle.tx_machine.specs.World.{World, Event, Ask, Step, happens}
use Rattle.tx_machine.specs.Notices.{Notice, Quiet, notice}

-- only a steps; others may ask
abbrev pub IsAlone : ℕ → List Event → Type 0
IsAlone a [] = Unit {0}
IsAlone a (Ask b request ∷ es) = IsAlone a es
IsAlone a (Step b ∷ es) = (b ≡ a) × IsAlone a es

-- no commit holds the location
abbrev pub IsFree : LockWord → Type 0
IsFree (Free k) = Unit {0}
IsFree (Locked k) = ⊥

-- each request is answered within so many of its own steps
abbrev pub step_limit : ℕ
step_limit = 1000000

-- how many of its own steps a request takes at most; 0 where none is under way
abbrev pub steps_left : Actor → Place → ℕ
steps_left x Begin = 1
steps_left x (Look l) = 3
steps_left x (Fetch l k) = 2
steps_left x (Again l k v) = 1
steps_left x (Lock ls) = 2 * length ls + 1 + length x.reads
steps_left x (Take l k ls) = 2 * length ls + 2 + length x.reads
steps_left x (Check ls) = length ls
steps_left x First = length x.writes
steps_left x (Store ls) = length ls
steps_left x Release = length x.held
steps_left x Undo = length x.held
steps_left x Leave = 1
steps_left x Close = 1
steps_left x p = 0

-- the request is answered, with an answer or a refusal
abbrev pub IsAnswered : Notice → Type 0
IsAnswered Quiet = ⊥
IsAnswered n = Unit {0}

-- how many steps of a there are
abbrev pub steps_of : ℕ → List Event → ℕ
steps_of a [] = 0
steps_of a (Ask b request ∷ es) = steps_of a es
steps_of a (Step b ∷ es) = if b == a then steps_of a es + 1 else steps_of a es

-- a asks for nothing
abbrev pub AsksNothing : ℕ → List Event → Type 0
AsksNothing a [] = Unit {0}
AsksNothing a (Ask b request ∷ es) = (b ≢ a) × AsksNothing a es
AsksNothing a (Step b ∷ es) = AsksNothing a es

-- some step of a in this schedule answers its request
abbrev pub IsAnsweredWithin : ℕ → List Event → World → Type 0
IsAnsweredWithin a [] s = ⊥
IsAnsweredWithin a (Ask b request ∷ es) s = IsAnsweredWithin a es (happens s (Ask b request))
IsAnsweredWithin a (Step b ∷ es) s = ((b ≡ a) × IsAnswered (notice s (s.actors a) (s.actors a).place)) ⊎ IsAnsweredWithin a es
    (happens s (Step b))
