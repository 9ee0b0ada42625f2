-- How far a request of a world is from its answer.
use Rattle.std.specs.Prelude.{◌≡◌, ◌⊎◌, ◌==◌, ℕ, suc, ◌+◌, ◌*◌, ◌<◌, ◌≤◌, List, [], ◌∷◌, length, if◌then◌else◌}
use Rattle.tx_sets.specs.Entries.{locations}
use Rattle.tx_sets.specs.declared.access_set.TheConstants.{LOCATION_LIMIT}
use Rattle.tx_machine.specs.Actor.{Place, Lock, Take, Actor}
use Rattle.tx_machine.specs.Progress.{steps_left}
use Rattle.seq_model.specs.declared.event.Event.{Event}
use Rattle.seq_model.specs.declared.event.Event.TheVariants.{Ask, Step, Starve}
use Rattle.seq_model.specs.declared.event.Notice.{Notice}
use Rattle.seq_model.specs.declared.event.Notice.TheVariants.{Quiet}
use Rattle.replay_log.specs.Parts.{Kind, MapKind, BagKind, PqKind, QueueKind}
use Rattle.replay_log.specs.Contents.{Block}
use Rattle.replay_log.specs.Worlds.{World, Stage, Idle, Open, Beginning, Reading, Trying, Copying, Loading, Locking, Gating, Ready, Storing}
use Rattle.replay_log.specs.Worlds.{Homing, Releasing, Closing, Returning, Cancelling, Leaving, After, gate_tries, new_in, happens}

-- the locks that are still to be taken
abbrev pub unlocked : Place → ℕ
unlocked (Lock ls) = length ls
unlocked (Take l k ls) = suc (length ls)
unlocked p = 0

-- how many locations a call reads at most, on a collection of so many stripes, and shapes in which a set has room for them
abbrev pub most_by : Kind → ℕ → ℕ
most_by MapKind n = n
most_by BagKind n = n
most_by PqKind n = n + 1
most_by QueueKind n = 2

abbrev pub AreSmall : List Block → Type 0
AreSmall [] = Unit {0}
AreSmall (b ∷ bs) = (most_by b.kind b.stripes ≤ LOCATION_LIMIT) × AreSmall bs

-- whose event it is
abbrev pub whose : {V : Type 0} → Event V → ℕ
whose (Ask a q) = a
whose (Step a) = a
whose (Starve a) = a

abbrev pub IsQuiet : {V : Type 0} → Notice V → Type 0
IsQuiet Quiet = Unit {0}
IsQuiet n = ⊥

module _ {V : Type 0} where
  -- How many of its own steps the request takes at most, at this stage, where the machine's actor is y. A gate is tried 64 times; a call
  -- that is still to be taken loads at most 4,096 locations three times each; and a request that is refused puts back its gates and its
  -- locks.
  abbrev pub left_at : Stage V → Actor → ℕ
  left_at Idle y = 0
  left_at Open y = 0
  left_at Beginning y = 1
  left_at (Reading l) y = steps_left y y.place + 1
  left_at (Trying asked tries) y = tries + 12292
  left_at (Copying asked) y = 12291
  left_at (Loading o []) y = 0
  left_at (Loading o (d ∷ es)) y = steps_left y y.place + 3 * length (new_in y.reads (locations es)) + 1
  left_at Locking y = steps_left y y.place + unlocked y.place + length y.held + 66 * length y.writes + 3
  left_at (Gating got [] tries) y = 0
  left_at (Gating got (k ∷ ks) tries) y = tries + gate_tries * length ks + length y.writes + length got + length ks + length y.held + 4
  left_at (Ready ks) y = length y.writes + length ks + length y.held + 2
  left_at (Storing ks) y = steps_left y y.place + length ks + length y.held + 1
  left_at (Homing ks) y = length ks + length y.held + 1
  left_at Releasing y = length y.held
  left_at Closing y = 1
  left_at (Returning ks) y = length ks + length y.held + 2
  left_at Cancelling y = length y.held + 1
  left_at Leaving y = 1

  abbrev pub left_of : World V → ℕ → ℕ
  left_of w a = left_at (w.seats a).stage (w.boosted.words.actors a)

  -- what came of a step answers the request, or brings it nearer to its answer than m
  abbrev pub Nears : ℕ → ℕ → After V → Type 0
  Nears a m r = IsQuiet r.1 → left_of r.0 a < m

  -- how many steps of a there are
  abbrev pub steps_of : ℕ → List (Event V) → ℕ
  steps_of a [] = 0
  steps_of a (Step b ∷ es) = if b == a then steps_of a es + 1 else steps_of a es
  steps_of a (e ∷ es) = steps_of a es

  -- What this event answers is the answer to the request of a that is under way, or refuses it: a step or a failed allocation of a answers
  -- it. What a asks for meanwhile is another request.
  abbrev pub IsAnswer : ℕ → Event V → Notice V → Type 0
  IsAnswer a (Ask b q) n = ⊥
  IsAnswer a (Step b) n = (b ≡ a) × (IsQuiet n → ⊥)
  IsAnswer a (Starve b) n = (b ≡ a) × (IsQuiet n → ⊥)

  -- some event of these answers the request of a, or refuses it
  abbrev pub IsAnsweredWithin : ℕ → List (Event V) → World V → Type 0
  IsAnsweredWithin a [] w = ⊥
  IsAnsweredWithin a (e ∷ es) w = IsAnswer a e (happens w e).1 ⊎ IsAnsweredWithin a es (happens w e).0
