-- A client of a running world that is alone, and the results of its requests.
use Rattle.std.specs.Prelude.{◌≡◌, ℕ, ◌+◌, ◌<◌, ◌≤◌, Bool, true, false, if◌then◌else◌, List, [], ◌∷◌, ◌++◌}
use Rattle.tx_machine.specs.Actor.{clock_limit}
use Rattle.seq_model.specs.declared.call.Call.{Call}
use Rattle.seq_model.specs.declared.call.Reply.{Reply}
use Rattle.seq_model.specs.declared.event.Answer.TheVariants as answer
use Rattle.seq_model.specs.declared.event.Notice.{Notice}
use Rattle.seq_model.specs.declared.event.Notice.TheVariants.{Answered}
use Rattle.seq_model.specs.declared.event.Request.{Request}
use Rattle.seq_model.specs.declared.event.Request.TheVariants as request
use Rattle.step_core.specs.Shown.{is_actor}
use Rattle.replay_log.specs.WorldProgress.{AreSmall}
use Rattle.actor_laws.specs.Alone.{ArePlain, commits_in}
use Rattle.vac_model.specs.declared.action.Action.{Action}
use Rattle.vac_model.specs.Actions.{IsAllowed}
use Rattle.vac_model.specs.Holdings.{Holdings}
use Rattle.seq_model.specs.Programs.{Answers, Asks, Follows}
use Rattle.vac_model.specs.declared.action.ActionReply.{ActionReply}
use Rattle.client_sessions.specs.declared.entry.Entry.{Entry}
use Rattle.client_sessions.specs.Sessions.{SessionProgram, session}
use Rattle.step_world.specs.Parts.{IsWorld}
use Rattle.step_world.specs.declared.parts.Parts.{Parts}
use Rattle.vacation_core.specs.Alone.{AreOf}
use Rattle.vacation_core.specs.ClientWorlds.{events_of}
use Rattle.vacation_core.specs.Histories.{History, IsAt, IsLawful, world_in}
use Rattle.actor_laws.specs.KnownStages.{KnownStage, Rests, Begins, Stands, Calls}

-- whether a commit may still be asked for
abbrev pub may_commit : KnownStage Entry → ℕ
may_commit Begins = 1
may_commit (Stands calls) = 1
may_commit (Calls calls call) = 1
may_commit p = 0

-- Actor a alone has done anything since the world opened at clock 0 on these tables, of which c are the parts: it has begun n sessions. Its
-- transaction stands at p and is to do this action, and it has committed these.
pub record IsClient (a : ℕ) (tables : Holdings) (n : ℕ) (p : KnownStage Entry) (action : Action) (done : List Action)
    (c : Parts Entry) : Type 0 where
  pub history : History
  pub opening : history.tables ≡ tables
  pub start : history.clock ≡ 0
  pub actor : is_actor a ≡ true
  pub small : AreSmall history.blocks
  pub lawful : IsLawful history
  pub alone : AreOf a history.turns
  pub plain : ArePlain a (events_of history.turns)
  pub asked : commits_in (events_of history.turns) + may_commit p ≤ n
  pub few : n < clock_limit
  pub at : IsAt a p action done history
  pub parts : IsWorld c (world_in history)

-- the calls are those that the session asks, and this is the next one
abbrev pub IsNext : Action → List (Call Entry × Reply Entry) → Call Entry → Type 0
IsNext action calls call = (next : Reply Entry → SessionProgram) × Follows (session action) calls (Asks call next)

-- they are all
abbrev pub AreAll : Action → List (Call Entry × Reply Entry) → Type 0
AreAll action calls = (reply : ActionReply) × Follows (session action) calls (Answers reply)

-- What may be asked for an action, where the transaction stands at p after these calls and was begun for the old one; a session more is
-- below the limit of the clock.
abbrev pub IsDue : ℕ → (old action : Action) → List (Call Entry × Reply Entry) → KnownStage Entry → Request Entry → Type 0
IsDue n old action calls p request.Begin = IsAllowed action × (p ≡ Rests) × (n + 1 < clock_limit)
IsDue n old action calls p (request.Call call) = IsAllowed action × (old ≡ action) × (p ≡ Stands calls) × IsNext action calls call
IsDue n old action calls p request.Commit = (old ≡ action) × (p ≡ Stands calls) × AreAll action calls
IsDue n old action calls p q = ⊥

-- how many sessions it has begun then
abbrev pub begun : ℕ → Request Entry → ℕ
begun n request.Begin = n + 1
begun n q = n

-- Where a transaction stands after this answer to a request, and whether it has committed: each request is answered, and none refused.
abbrev pub Leads : List (Call Entry × Reply Entry) → Request Entry → Notice Entry → KnownStage Entry → (commits : Bool) → Type 0
Leads calls request.Begin (Answered b (answer.Begun rv)) p false = p ≡ Stands []
Leads calls (request.Call call) (Answered b (answer.Replied r)) p false = p ≡ Stands (calls ++ (call, r) ∷ [])
Leads calls request.Commit (Answered b (answer.Committed n)) p true = p ≡ Rests
Leads calls q n p commits = ⊥

-- The client has asked q after these calls, for an action, and was answered n last.
pub record Comes (a : ℕ) (tables : Holdings) (k : ℕ) (calls : List (Call Entry × Reply Entry)) (q : Request Entry) (n : Notice Entry)
    (action : Action) (done : List Action) (c : Parts Entry) : Type 0 where
  pub at : KnownStage Entry
  pub commits : Bool
  pub leads : Leads calls q n at commits
  pub client : IsClient a tables k at action (if commits then done ++ action ∷ [] else done) c

-- In every world where a client may ask q, and of which c are the parts, it was answered n to its request, and d are the parts that are
-- left.
abbrev pub IsAnswered : Parts Entry → ℕ → Request Entry → Parts Entry → Notice Entry → Type 0
IsAnswered c a q d n =
    (tables : Holdings) (k : ℕ) (calls : List (Call Entry × Reply Entry)) (p : KnownStage Entry) (old action : Action) (done : List Action)
    → IsClient a tables k p old done c → IsDue k old action calls p q → Comes a tables (begun k q) calls q n action done d
