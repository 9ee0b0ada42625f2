-- A session is its action, and a state is that of one tables.
use Rattle.std.specs.Prelude.{◌≡◌, ◌≢◌, List, None}
use Rattle.seq_model.specs.declared.call.Call.{Call}
use Rattle.seq_model.specs.declared.call.Reply.{Reply}
use Rattle.seq_model.specs.Contents.{call_of}
use Rattle.seq_model.specs.Runs.{IsLegal, after_calls}
use Rattle.vac_model.specs.declared.action.Action.{Action}
use Rattle.vac_model.specs.declared.action.ActionReply.{ActionReply}
use Rattle.vac_model.specs.Holdings.{Holdings}
use Rattle.vac_model.specs.Actions.{action_of, IsAllowed}
use Rattle.vac_model.specs.Balanced.{IsBalanced}
use Rattle.client_sessions.specs.declared.entry.Entry.{Entry}
use Rattle.client_sessions.specs.Holding.{state_of}
use Rattle.seq_model.specs.Programs.{Asks, Answers, GivesUp, Follows}
use Rattle.client_sessions.specs.Sessions.{SessionProgram, session}

-- these calls are those that the session asked, with legal replies, and this is left of the session
abbrev pub Reaches : Action → Holdings → List (Call Entry × Reply Entry) → SessionProgram → Type 0
Reaches action tables calls rest = Follows (session action) calls rest × IsLegal calls (state_of tables)

-- a session that has ended answered what its action answers, and left what its action leaves
abbrev pub EndsAsAction : Type 0
EndsAsAction =
    (action : Action) (tables : Holdings) (calls : List (Call Entry × Reply Entry)) (reply : ActionReply)
    → IsAllowed action → IsBalanced tables → Reaches action tables calls (Answers reply)
    → (reply ≡ (action_of action tables).0) × (after_calls calls (state_of tables) ≡ state_of (action_of action tables).1)

-- from balanced tables no session aborts
abbrev pub NeverGivesUp : Type 0
NeverGivesUp =
    (action : Action) (tables : Holdings) (calls : List (Call Entry × Reply Entry))
    → IsAllowed action → IsBalanced tables → Reaches action tables calls GivesUp → ⊥

-- and each call that it asks has an answer
abbrev pub AsksLegalCalls : Type 0
AsksLegalCalls =
    (action : Action) (tables : Holdings) (calls : List (Call Entry × Reply Entry)) (call : Call Entry)
    (next : Reply Entry → SessionProgram) → IsAllowed action → IsBalanced tables → Reaches action tables calls (Asks call next)
    → call_of call (after_calls calls (state_of tables)) ≢ None

-- no two tables have one state
abbrev pub StatesTellTables : Type 0
StatesTellTables = (one other : Holdings) → state_of one ≡ state_of other → one ≡ other
