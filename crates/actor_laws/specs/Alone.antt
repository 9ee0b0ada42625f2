-- An actor that alone has done anything since its world opened, asking as a client does, and what is refused to it.
use Rattle.std.specs.Prelude.{◌≡◌, ℕ, ◌+◌, ◌<◌, ◌≤◌, true, false, List, [], ◌∷◌, length}
use Rattle.tx_sets.specs.declared.access_set.TheConstants.{LOCATION_LIMIT}
use Rattle.tx_machine.specs.Actor.{clock_limit}
use Rattle.seq_model.specs.declared.call.Call.{Call}
use Rattle.seq_model.specs.declared.call.Op.{Op}
use Rattle.seq_model.specs.declared.call.Op.TheVariants.{Read, Write, Get, Put, Remove, Enqueue, Dequeue, Peek}
use Rattle.seq_model.specs.declared.call.Reply.{Reply}
use Rattle.seq_model.specs.declared.event.Event.{Event}
use Rattle.seq_model.specs.declared.event.Event.TheVariants.{Ask, Step}
use Rattle.seq_model.specs.declared.event.Request.TheVariants as request
use Rattle.seq_model.specs.declared.held.Held.{Held}
use Rattle.seq_model.specs.declared.limits.TheConstants.{CALL_LIMIT}
use Rattle.replay_log.specs.Contents.{Block, HaveStripes, block_of}
use Rattle.replay_log.specs.Guards.{IsAtRest}
use Rattle.replay_log.specs.WorldAnswers.{IsRefusal}
use Rattle.replay_log.specs.Worlds.{World, Stage, Seat, Open, Copying, actor_of, happens, is_known, opened, run}

module _ {V : Type 0} where
  -- ---- calls
  -- a call on a word, on one key of a map, or at one end of a queue
  abbrev pub IsSmall : Op V → Type 0
  IsSmall Read = Unit {0}
  IsSmall (Write v) = Unit {0}
  IsSmall (Get k) = Unit {0}
  IsSmall (Put k v) = Unit {0}
  IsSmall (Remove k) = Unit {0}
  IsSmall (Enqueue x) = Unit {0}
  IsSmall Dequeue = Unit {0}
  IsSmall Peek = Unit {0}
  IsSmall op = ⊥

  -- how many locations it reads at most, and writes at most
  abbrev pub weight : Op V → ℕ
  weight (Enqueue x) = 2
  weight Dequeue = 2
  weight Peek = 2
  weight op = 1

  abbrev pub weights : List (Call V × Reply V) → ℕ
  weights [] = 0
  weights (c ∷ cs) = weight c.0.op + weights cs

  -- ---- events
  -- Actor a begins, makes a small call, commits, or takes a step.
  abbrev pub IsPlain : ℕ → Event V → Type 0
  IsPlain a (Ask b request.Begin) = b ≡ a
  IsPlain a (Ask b (request.Call call)) = (b ≡ a) × IsSmall call.op
  IsPlain a (Ask b request.Commit) = b ≡ a
  IsPlain a (Step b) = b ≡ a
  IsPlain a e = ⊥

  abbrev pub ArePlain : ℕ → List (Event V) → Type 0
  ArePlain a [] = Unit {0}
  ArePlain a (e ∷ es) = IsPlain a e × ArePlain a es

  -- how often a commit was asked for
  abbrev pub commit_of : Event V → ℕ
  commit_of (Ask b request.Commit) = 1
  commit_of e = 0

  abbrev pub commits_in : List (Event V) → ℕ
  commits_in [] = 0
  commits_in (e ∷ es) = commit_of e + commits_in es

  -- ---- what is refused
  -- a call that is being copied for is, with those before it, on no more locations than a set may have
  abbrev pub HasRoomFor : Seat V → Stage V → Type 0
  HasRoomFor x (Copying asked) = weights x.calls + weight asked.op ≤ LOCATION_LIMIT
  HasRoomFor x stage = Unit {0}

  -- there is the word, or a collection of the kind of the call
  abbrev pub IsThere : World V → ℕ → Op V → Type 0
  IsThere w t Read = t < w.words
  IsThere w t (Write v) = t < w.words
  IsThere w t op = is_known (block_of w.blocks t) op ≡ true

  -- Actor a is no declared reader, and no request of it is refused but for the limits.
  pub record IsAnswered (start : ℕ) (events : List (Event V)) (w : World V) (a : ℕ) : Type 0 where
    pub undeclared : (actor_of w a).declared ≡ false
    pub clock : w.boosted.words.clock ≤ start + commits_in events
    pub steps : start + commits_in events < clock_limit → (IsAtRest (w.seats a).stage → ⊥) → HasRoomFor (w.seats a) (w.seats a).stage
        → IsRefusal (happens w (Step a)).1 → ⊥
    pub calls : (call : Call V) → (w.seats a).stage ≡ Open → IsSmall call.op → IsThere w call.target call.op
        → length (w.seats a).calls < CALL_LIMIT → weights (w.seats a).calls + weight call.op ≤ LOCATION_LIMIT
        → IsRefusal (happens w (Ask a (request.Call call))).1 → ⊥

-- so it is wherever the actor alone has done anything
abbrev pub IsNeverRefused : Type 0 → Type 0
IsNeverRefused V =
    (blocks : List Block) (clock : ℕ) (values : List ℕ) (held : List (Held V)) (events : List (Event V)) (a : ℕ)
    → HaveStripes blocks → ArePlain a events → IsAnswered clock events (run (opened blocks clock values held) events) a
