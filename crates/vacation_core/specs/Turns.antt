-- Where the client of a running world stands as it takes one session after another.
use Rattle.std.specs.Prelude.{ℕ, ◌+◌, ◌<◌, List, [], ◌∷◌, ◌++◌, length, All, Option, Some, None}
use Rattle.tx_machine.specs.Actor.{clock_limit}
use Rattle.seq_model.specs.declared.call.Call.{Call}
use Rattle.seq_model.specs.declared.call.Reply.{Reply}
use Rattle.seq_model.specs.declared.event.Answer.TheVariants as answer
use Rattle.seq_model.specs.declared.event.Notice.{Notice}
use Rattle.seq_model.specs.declared.event.Notice.TheVariants.{Answered}
use Rattle.vac_model.specs.declared.action.Action.{Action}
use Rattle.vac_model.specs.Actions.{IsAllowed}
use Rattle.vac_model.specs.Holdings.{Holdings}
use Rattle.client_sessions.specs.declared.entry.Entry.{Entry}
use Rattle.step_world.specs.declared.parts.Parts.{Parts}
use Rattle.actor_laws.specs.KnownStages.{Rests, Stands}
use Rattle.vacation_core.specs.LoneClients.{AreAll, IsClient, IsNext}
use Rattle.vacation_core.specs.declared.session.TheConstants.{CLIENT}

-- it is idle, has begun n sessions, the last for this action, and has committed those done
abbrev pub IsAtRest : Holdings → ℕ → Action → List Action → Parts Entry → Type 0
IsAtRest tables n last done c = IsClient CLIENT tables n Rests last done c

-- its transaction is open for this action, and has made these calls
abbrev pub IsOpen : Holdings → ℕ → List (Call Entry × Reply Entry) → Action → List Action → Parts Entry → Type 0
IsOpen tables n calls action done c = IsClient CLIENT tables n (Stands calls) action done c

-- the world opened for it
abbrev pub HasOpened : Holdings → Parts Entry → Type 0
HasOpened tables c = (first : Action) × IsAtRest tables 0 first [] c

-- the reply to a call, where the notice has one
abbrev pub replied : Notice Entry → Option (Reply Entry)
replied (Answered b (answer.Replied reply)) = Some reply
replied n = None

-- ---- what each part of a session makes of the parts of the world, wherever the client stands

abbrev pub Begins : Parts Entry → Parts Entry → Type 0
Begins c d = (tables : Holdings) (n : ℕ) (last action : Action) (done : List Action)
    → IsAtRest tables n last done c → IsAllowed action → n + 1 < clock_limit → IsOpen tables (n + 1) [] action done d

abbrev pub Calls : Call Entry → Parts Entry → Reply Entry → Parts Entry → Type 0
Calls call c reply d = (tables : Holdings) (n : ℕ) (calls : List (Call Entry × Reply Entry)) (action : Action) (done : List Action)
    → IsOpen tables n calls action done c → IsAllowed action → IsNext action calls call
    → IsOpen tables n (calls ++ (call, reply) ∷ []) action done d

-- all calls of the session
abbrev pub MakesCalls : Action → Parts Entry → Parts Entry → Type 0
MakesCalls action c d = (tables : Holdings) (n : ℕ) (done : List Action) → IsAllowed action → IsOpen tables n [] action done c
    → (calls : List (Call Entry × Reply Entry)) × AreAll action calls × IsOpen tables n calls action done d

abbrev pub Commits : Parts Entry → Parts Entry → Type 0
Commits c d = (tables : Holdings) (n : ℕ) (calls : List (Call Entry × Reply Entry)) (action : Action) (done : List Action)
    → IsOpen tables n calls action done c → AreAll action calls → IsAtRest tables n action (done ++ action ∷ []) d

-- a whole session
abbrev pub Runs : Action → Parts Entry → Parts Entry → Type 0
Runs action c d = (tables : Holdings) (n : ℕ) (last : Action) (done : List Action) → IsAllowed action → IsAtRest tables n last done c
    → n + 1 < clock_limit
    → IsAtRest tables (n + 1) action (done ++ action ∷ []) d

-- the sessions of these actions, in their order
abbrev pub RunsAll : List Action → Parts Entry → Parts Entry → Type 0
RunsAll actions c d = (tables : Holdings) (first : Action) → All IsAllowed actions → IsAtRest tables 0 first [] c
    → (last : Action) × IsAtRest tables (length actions) last actions d

-- ---- where it stands, so that it may do so

-- its transaction is open for some action, whose session asks this call next
pub record MayCall (call : Call Entry) (c : Parts Entry) : Type 0 where
  pub tables : Holdings
  pub count : ℕ
  pub calls : List (Call Entry × Reply Entry)
  pub action : Action
  pub done : List Action
  pub opened : IsOpen tables count calls action done c
  pub allowed : IsAllowed action
  pub next : IsNext action calls call

-- its transaction has just begun for this action
pub record HasBegun (action : Action) (c : Parts Entry) : Type 0 where
  pub tables : Holdings
  pub count : ℕ
  pub done : List Action
  pub allowed : IsAllowed action
  pub opened : IsOpen tables count [] action done c

-- it is idle, and a session more is below the limit of the clock
pub record MayRun (action : Action) (c : Parts Entry) : Type 0 where
  pub tables : Holdings
  pub count : ℕ
  pub last : Action
  pub done : List Action
  pub allowed : IsAllowed action
  pub rests : IsAtRest tables count last done c
  pub few : count + 1 < clock_limit
