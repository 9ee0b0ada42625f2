-- What the machine asks of each action, and which action the next step of a request does.
use Rattle.std.specs.Prelude.{◌≡◌, ℕ, true, false, Option, Some, None, [], ◌∷◌}
use Rattle.tx_sets.specs.Entries.{locations}
use Rattle.tx_machine.specs.Actor.{Check, Store}
use Rattle.tx_machine.specs.Requests.{AskWrite, AskStore, AskRelease}
use Rattle.tx_machine.specs.World.{Ask, Step}
use Rattle.tx_machine.specs.Requests as word
use Rattle.tx_machine.specs.Notices as told
use Rattle.tx_machine.specs.Content.{Content}
use Rattle.tx_machine.specs.Boosted.{Boosted, Action, OnWords, TakeGate, PutGate, Accept, GoHome, is_open, is_stored, is_committing}
use Rattle.tx_machine.specs.Boosted.{is_actor, is_held, is_given, is_sound, every, may_write, changes}
use Rattle.replay_log.specs.Contents.{CollectionCall, content}
use Rattle.replay_log.specs.Pieces.{covers_at}
use Rattle.replay_log.specs.Worlds.{World, Stage, Idle, Open, Trying, Copying, Loading, Gating, Ready, Homing, Returning, asks, moves}

-- The machine does the action: its guard holds, and a step or a guarded request is next at the place of its actor. A try on a gate that
-- another holds is done too, and fails.
abbrev pub Allows : {X Op Out : Type 0} → Content X Op Out → Boosted X Out → Action Op → Type 0
Allows c s (OnWords (Ask a (AskWrite l v))) =
    (is_open (s.words.actors a).place ≡ true) × ((s.words.actors a).declared ≡ false) × (c.plain l ≡ true)
Allows c s (OnWords (Ask a AskStore)) =
    ((s.words.actors a).place ≡ Check []) × (every (is_held c s a) (locations (s.words.actors a).writes) ≡ true)
Allows c s (OnWords (Ask a AskRelease)) =
    ((s.words.actors a).place ≡ Store []) × (every (is_given c s a) (locations (s.words.actors a).writes) ≡ true)
Allows c s (OnWords (Ask a q)) = Unit {0}
Allows c s (OnWords (Step a)) = told.notice s.words (s.words.actors a) (s.words.actors a).place ≡ told.NoTransaction → ⊥
Allows c s (TakeGate a k) = is_committing (s.words.actors a).place ≡ false
Allows c s (PutGate a k which) = (is_actor a (s.gates k) ≡ true) × (is_committing (s.words.actors a).place ≡ false)
Allows c s (Accept a op) =
    (is_open (s.words.actors a).place ≡ true)
    × (may_write (s.words.actors a).declared (c.writes (c.outcome (changes c (s.shadows a).outcomes (s.shadows a).parts) op)) ≡ true)
    × (every (is_sound c s a) (c.reads (c.outcome (changes c (s.shadows a).outcomes (s.shadows a).parts) op)) ≡ true)
Allows c s (GoHome a k) = (is_actor a (s.gates k) ≡ true) × (is_stored (s.words.actors a).place ≡ true)

module _ {V : Type 0} where
  -- the action that the next step of a does, at this stage; none, where no request is under way
  abbrev pub step_action : World V → ℕ → Stage V → Option (Action (CollectionCall V))
  step_action w a Idle = None
  step_action w a Open = None
  step_action w a (Trying asked tries) = Some (TakeGate a asked.collection)
  step_action w a (Copying asked) = Some (PutGate a asked.collection (covers_at w.words w.blocks asked))
  step_action w a (Loading o []) = None
  step_action w a (Gating got [] tries) = None
  step_action w a (Gating got (k ∷ ks) tries) = Some (TakeGate a k)
  step_action w a (Ready ks) = Some (asks a word.AskStore)
  step_action w a (Homing []) = None
  step_action w a (Homing (k ∷ ks)) = Some (GoHome a k)
  step_action w a (Returning []) = None
  step_action w a (Returning (k ∷ ks)) = Some (PutGate a k (λ l. false))
  step_action w a stage = Some (moves a)

  abbrev pub IsAtRest : Stage V → Type 0
  IsAtRest Idle = Unit {0}
  IsAtRest Open = Unit {0}
  IsAtRest stage = ⊥

  -- where a request is under way, its next step does an action that the machine does
  abbrev pub IsAllowed : World V → Stage V → Option (Action (CollectionCall V)) → Type 0
  IsAllowed w stage None = IsAtRest stage
  IsAllowed w stage (Some e) = Allows (content w.words w.blocks) w.boosted e
