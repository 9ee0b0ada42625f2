-- Receipts, each of all calls of an action's session: in commit order they are these actions, one after another.
use Rattle.std.specs.Prelude.{◌≡◌, ℕ, List, [], ◌∷◌, All, map, ⊤}
use Rattle.std.specs.List.{sum_by}
use Rattle.std.specs.List.Sorted.{IsPermutation}
use Rattle.seq_model.specs.declared.call.Call.{Call}
use Rattle.seq_model.specs.declared.call.Reply.{Reply}
use Rattle.seq_model.specs.declared.record.Record.{Record}
use Rattle.seq_model.specs.Contents.{Contents}
use Rattle.seq_model.specs.Runs.{IsInCommitOrder, IsRun, after_run}
use Rattle.vac_model.specs.declared.action.Action.{Action}
use Rattle.vac_model.specs.declared.action.ActionReply.{ActionReply}
use Rattle.vac_model.specs.Actions.{IsAllowed}
use Rattle.vac_model.specs.Balanced.{IsBalanced}
use Rattle.vac_model.specs.Holdings.{Holdings}
use Rattle.seq_model.specs.declared.job.Ask.TheVariants as ask
use Rattle.seq_model.specs.Programs.{Answers, AreAsked, after, asked, replies_of}
use Rattle.client_sessions.specs.declared.entry.Entry.{Entry}
use Rattle.client_sessions.specs.Holding.{state_of}
use Rattle.client_sessions.specs.Runs.{AreDone, AreSessions, Deal, IsSession, after_deals}
use Rattle.client_sessions.specs.Sessions.{session}

-- These are all calls of the session of an allowed action: each is the one that it asks after the replies before it, and after the last one
-- it is done.
pub record IsWhole (action : Action) (calls : List (Call Entry × Reply Entry)) : Type 0 where
  pub allowed : IsAllowed action
  pub each : AreAsked (session action) calls
  pub done : asked (after (session action) (replies_of calls)) ≡ ask.Done

-- each receipt is one of the session of its action
abbrev pub AreWhole : List Action → List (ℕ × Record Entry) → Type 0
AreWhole [] [] = ⊤
AreWhole (a ∷ more) (r ∷ rs) = IsWhole a r.1.calls × AreWhole more rs
AreWhole _ _ = ⊥

-- These receipts are those of sessions of these actions, in order, each answered as its action is on the tables that those before it leave.
-- They are in commit order, and a run from the state of the tables; and s is the state of what they leave, balanced.
pub record AreServed (tables : Holdings) (done : List Action) (receipts : List (ℕ × Record Entry)) (s : Contents Entry) : Type 0 where
  pub deals : List Deal
  pub actions : map (λ d. d.0) deals ≡ done
  pub sessions : AreSessions deals receipts
  pub replies : AreDone deals tables
  pub ordered : IsInCommitOrder receipts
  pub run : IsRun receipts (state_of tables)
  pub left : s ≡ state_of (after_deals deals tables)
  pub balanced : IsBalanced (after_deals deals tables)

-- ---- the laws

abbrev pub JobsAreActions : Type 0
JobsAreActions =
    (tables : Holdings) (actions : List Action) (receipts : List (ℕ × Record Entry))
    → IsBalanced tables → AreWhole actions receipts → IsInCommitOrder receipts → IsRun receipts (state_of tables)
    → AreServed tables actions receipts (after_run receipts (state_of tables))

-- what a session answers in a receipt of its own
abbrev pub RepliesAreTold : Type 0
RepliesAreTold =
    (d : Deal) (calls : List (Call Entry × Reply Entry)) (reply : ActionReply)
    → IsSession d calls → after (session d.0) (replies_of calls) ≡ Answers reply → reply ≡ d.1

-- an action, and a receipt of its session with the actor whose transaction it was
abbrev pub Receipt : Type 0
Receipt = Action × (ℕ × Record Entry)

abbrev pub actions_in : List Receipt → List Action
actions_in receipts = map (λ x. x.0) receipts

abbrev pub records_in : List Receipt → List (ℕ × Record Entry)
records_in receipts = map (λ x. x.1) receipts

-- The receipts, in another order, are what they are in commit order, each of its own action.
pub record AreServedInOrder (tables : Holdings) (receipts : List Receipt) (order : List (ℕ × Record Entry)) : Type 0 where
  pub arranged : List Receipt
  pub same : IsPermutation receipts arranged
  pub ordered : records_in arranged ≡ order
  pub served : AreServed tables (actions_in arranged) order (after_run order (state_of tables))

-- two lists have the same receipts where whatever is counted in them is the same
abbrev pub HaveSame : List (ℕ × Record Entry) → List (ℕ × Record Entry) → Type 0
HaveSame receipts order = (h : ℕ × Record Entry → ℕ) → sum_by h receipts ≡ sum_by h order

abbrev pub ReceiptsAreActions : Type 0
ReceiptsAreActions =
    (tables : Holdings) (receipts : List Receipt) (order : List (ℕ × Record Entry))
    → IsBalanced tables → All (λ x. IsWhole x.0 x.1.1.calls) receipts → HaveSame (records_in receipts) order → IsInCommitOrder order
    → IsRun order (state_of tables) → AreServedInOrder tables receipts order
