-- Sessions one after another, each a whole transaction, and the actions that they are.
use Rattle.std.specs.Prelude.{◌≡◌, ℕ, List, [], ◌∷◌, ⊤}
use Rattle.seq_model.specs.declared.call.Call.{Call}
use Rattle.seq_model.specs.declared.call.Reply.{Reply}
use Rattle.seq_model.specs.declared.record.Record.{Record}
use Rattle.seq_model.specs.Contents.{Contents}
use Rattle.seq_model.specs.Runs.{IsInCommitOrder, IsLegal, IsRun, after_run, state_at}
use Rattle.vac_model.specs.declared.action.Action.{Action}
use Rattle.vac_model.specs.declared.action.ActionReply.{ActionReply}
use Rattle.vac_model.specs.Actions.{action_of, IsAllowed}
use Rattle.vac_model.specs.Balanced.{IsBalanced}
use Rattle.vac_model.specs.Holdings.{Holdings}
use Rattle.seq_model.specs.Programs.{Answers, Follows, GivesUp}
use Rattle.client_sessions.specs.declared.entry.Entry.{Entry}
use Rattle.client_sessions.specs.Holding.{state_of}
use Rattle.client_sessions.specs.Sessions.{SessionProgram, session}

-- ---- actions, each with a reply

-- an action that a client asked for, and what it was answered
abbrev pub Deal : Type 0
Deal = Action × ActionReply

-- each was answered as its action answers on the tables that those before it leave
abbrev pub AreDone : List Deal → Holdings → Type 0
AreDone [] s = ⊤
AreDone (d ∷ ds) s = (d.1 ≡ (action_of d.0 s).0) × AreDone ds (action_of d.0 s).1

-- what they leave
abbrev pub after_deals : List Deal → Holdings → Holdings
after_deals [] s = s
after_deals (d ∷ ds) s = after_deals ds (action_of d.0 s).1

-- ---- records, each of a session

-- these calls are all that the session of an allowed action asks, and by their replies it answers this
pub record IsSession (d : Deal) (calls : List (Call Entry × Reply Entry)) : Type 0 where
  pub allowed : IsAllowed d.0
  pub whole : Follows (session d.0) calls (Answers d.1)

-- each record is one of a session
abbrev pub AreSessions : List Deal → List (ℕ × Record Entry) → Type 0
AreSessions [] [] = ⊤
AreSessions (d ∷ ds) (r ∷ rs) = IsSession d r.1.calls × AreSessions ds rs
AreSessions _ _ = ⊥

-- ---- the laws

-- the state is that of balanced tables
pub record HoldsBalanced (s : Contents Entry) : Type 0 where
  pub tables : Holdings
  pub balanced : IsBalanced tables
  pub are : s ≡ state_of tables

-- A run of sessions from the state of balanced tables is their actions, one after another: each reply is its action's, and the run
-- leaves the state of the tables that the actions leave, which are balanced.
pub record AreActions (deals : List Deal) (records : List (ℕ × Record Entry)) (tables : Holdings) : Type 0 where
  pub done : AreDone deals tables
  pub left : after_run records (state_of tables) ≡ state_of (after_deals deals tables)
  pub balanced : IsBalanced (after_deals deals tables)

abbrev pub RunsAreActions : Type 0
RunsAreActions =
    (deals : List Deal) (records : List (ℕ × Record Entry)) (tables : Holdings)
    → IsBalanced tables → AreSessions deals records → IsRun records (state_of tables) → AreActions deals records tables

-- what the records up to a number leave is the state of balanced tables, too
abbrev pub EachNumberHoldsTables : Type 0
EachNumberHoldsTables =
    (deals : List Deal) (records : List (ℕ × Record Entry)) (tables : Holdings) (n : ℕ)
    → IsBalanced tables → AreSessions deals records → IsInCommitOrder records → IsRun records (state_of tables)
    → HoldsBalanced (state_at n records (state_of tables))

-- calls that a session has made so far, with replies of what the records up to a number leave
pub record IsUnderWay (action : Action) (calls : List (Call Entry × Reply Entry)) (rest : SessionProgram) (n : ℕ)
    (records : List (ℕ × Record Entry)) (tables : Holdings) : Type 0 where
  pub allowed : IsAllowed action
  pub follows : Follows (session action) calls rest
  pub saw : IsLegal calls (state_at n records (state_of tables))

-- so no session beside such a run aborts
abbrev pub NoneGivesUp : Type 0
NoneGivesUp =
    (deals : List Deal) (records : List (ℕ × Record Entry)) (tables : Holdings) (n : ℕ) (action : Action)
    (calls : List (Call Entry × Reply Entry))
    → IsBalanced tables → AreSessions deals records → IsInCommitOrder records → IsRun records (state_of tables)
    → IsUnderWay action calls GivesUp n records tables → ⊥
