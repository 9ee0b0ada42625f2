-- On what the calls of a session are, and how many locations they take at most.
use Rattle.std.specs.Prelude.{◌≡◌, ℕ, ◌+◌, ◌≤◌, ◌<◌, List, length}
use Rattle.tx_sets.specs.declared.access_set.TheConstants.{LOCATION_LIMIT}
use Rattle.seq_model.specs.declared.call.Call.{Call}
use Rattle.seq_model.specs.declared.call.Op.{Op}
use Rattle.seq_model.specs.declared.call.Op.TheVariants.{Read, Write, Get, Put, Remove, Enqueue, Dequeue, Peek}
use Rattle.seq_model.specs.declared.call.Reply.{Reply}
use Rattle.seq_model.specs.declared.limits.TheConstants.{CALL_LIMIT}
use Rattle.actor_laws.specs.Alone.{IsSmall, weight, weights}
use Rattle.seq_model.specs.Programs.{Asks, Answers, Follows, GivesUp}
use Rattle.vac_model.specs.declared.action.Action.{Action}
use Rattle.vac_model.specs.Actions.{IsAllowed}
use Rattle.client_sessions.specs.declared.entry.Entry.{Entry}
use Rattle.client_sessions.specs.Sessions.{SessionProgram, session}

-- it is on word 0, on one of the five maps, or on one of the three queues after them
abbrev pub IsOn : Op Entry → ℕ → Type 0
IsOn Read t = t ≡ 0
IsOn (Write v) t = t ≡ 0
IsOn (Get k) t = t < 5
IsOn (Put k v) t = t < 5
IsOn (Remove k) t = t < 5
IsOn (Enqueue x) t = (5 ≤ t) × (t < 8)
IsOn Dequeue t = (5 ≤ t) × (t < 8)
IsOn Peek t = (5 ≤ t) × (t < 8)
IsOn op t = ⊥

-- whatever is replied, all its calls are such, and their weights are at most n
abbrev pub Takes : SessionProgram → ℕ → Type 0
Takes (Asks call next) n = (m : ℕ) × (m + weight call.op ≤ n) × IsOn call.op call.target × ((r : Reply Entry) → Takes (next r) m)
Takes (Answers a) n = Unit {0}
Takes GivesUp n = Unit {0}

-- A call after these is on the tables, and with them takes no more locations than a set may have; nor are there too many of them.
pub record Fits (calls : List (Call Entry × Reply Entry)) (call : Call Entry) : Type 0 where
  pub on : IsOn call.op call.target
  pub small : IsSmall call.op
  pub short : length calls < CALL_LIMIT
  pub room : weights calls + weight call.op ≤ LOCATION_LIMIT

-- so is each call that the session of an allowed action asks
abbrev pub SessionsFit : Type 0
SessionsFit =
    (action : Action) (calls : List (Call Entry × Reply Entry)) (call : Call Entry) (next : Reply Entry → SessionProgram)
    → IsAllowed action → Follows (session action) calls (Asks call next) → Fits calls call
