-- Sessions that workers run on a shared table: each receipt is one of its action's session, and in commit order the receipts are the
-- actions, one after another.
use Rattle.std.specs.Prelude.{◌≡◌, ℕ, ◌+◌, List, [], ◌∷◌, ◌++◌, All, IfOk, Ok, Err, flat_map, map}
use mathlib.Core.Option.{some}
use Rattle.seq_model.specs.declared.call.Reply.{Reply}
use Rattle.seq_model.specs.declared.record.Record.{Record}
use Rattle.seq_model.specs.Audit.{IsRunBetween}
use Rattle.seq_model.specs.Contents.{Contents}
use Rattle.seq_model.specs.Runs.{after_run}
use Rattle.vac_model.specs.declared.action.Action.{Action}
use Rattle.vac_model.specs.Actions.{IsAllowed}
use Rattle.vac_model.specs.Balanced.{IsBalanced}
use Rattle.vac_model.specs.Holdings.{Holdings}
use Rattle.seq_model.specs.declared.job.Ask.{Ask}
use Rattle.seq_model.specs.Programs.{after, asked}
use Rattle.client_sessions.specs.declared.entry.Entry.{Entry}
use Rattle.client_sessions.specs.Holding.{state_of}
use Rattle.client_sessions.specs.Sessions.{session}
use Rattle.vacation_core.specs.Served.{AreServedInOrder, Receipt}
use Rattle.actor_parts.specs.Openings.{world_of}
use Rattle.vacation_core.specs.Stripes.{eight}
use Rattle.tx_engine.specs.Jobs.{IsWholeJob}
use Rattle.shared_table.specs.declared.closed.Closed.{Closed}
use Rattle.shared_table.specs.declared.table.TxTable.{TxTable}
use Rattle.shared_table.specs.Ends.{homes_of, row_of}
use Rattle.shared_table.specs.Seated.{actor, contents_in, opening_of, view}
use Rattle.shared_table.specs.Shown.{ShowsWorld, first}
use Rattle.tx_engine.specs.Closing.{IsLeftBy, state_of as held_by}
use Rattle.tx_engine.specs.declared.seats.TxSeat.{TxSeat}
use Rattle.tx_engine.specs.Ready.{IsReady}
use Rattle.seq_model.specs.declared.causes.LastAbort.{LastAbort}
use Rattle.job_workers.specs.declared.report.Report.{Report}
use Rattle.job_workers.specs.Reports.{HasRun, IsReportOf}
use Rattle.tx_engine.specs.Tasks.{Outcome, missed_in, receipts_in}
use Rattle.workers.specs.declared.served.Served.{Served}

-- each action of each list is allowed
abbrev pub AreAllowed : List (List Action) → Type 0
AreAllowed lists = All (λ actions. All IsAllowed actions) lists

-- what the session of an action asks after these replies
abbrev pub asks_of : Action → List (Reply Entry) → Ask Entry → Type 0
asks_of action replies next = next ≡ asked (after (session action) replies)

-- ---- what is reported of the workers

-- one outcome for each action; a receipt has all calls of the action's session
abbrev pub AreOwnOutcomes : List Action → List (Outcome Entry) → Type 0
AreOwnOutcomes [] [] = Unit {0}
AreOwnOutcomes (action ∷ actions) (o ∷ os) = IfOk o (λ r. IsWholeJob (asks_of action) r.calls) × AreOwnOutcomes actions os
AreOwnOutcomes _ _ = ⊥

-- and so for each action of each list
abbrev pub AreAllOutcomes : List (List Action) → List (List (Outcome Entry)) → Type 0
AreAllOutcomes [] [] = Unit {0}
AreAllOutcomes (actions ∷ lists) (os ∷ more) = AreOwnOutcomes actions os × AreAllOutcomes lists more
AreAllOutcomes _ _ = ⊥

-- what the workers from this one on missed
abbrev pub all_missed : ℕ → List (List (Outcome Entry)) → List (ℕ × ℕ × LastAbort)
all_missed worker [] = []
all_missed worker (os ∷ more) = missed_in worker 0 os ++ all_missed (worker + 1) more

-- These are the outcomes of the actions of each list: the receipts, each of all calls of its action's session, and why others have none.
pub record AreReportedAs (lists : List (List Action)) (report : Report Entry) (outcomes : List (List (Outcome Entry))) : Type 0 where
  pub each : AreAllOutcomes lists outcomes
  pub receipts : report.receipts ≡ map receipts_in outcomes
  pub missed : report.missed ≡ all_missed 1 outcomes

-- the actions that have a receipt, each with it
abbrev pub dealt : List Action → List (Outcome Entry) → List (Action × Record Entry)
dealt (action ∷ actions) (Ok r ∷ os) = (action, r) ∷ dealt actions os
dealt (action ∷ actions) (Err cause ∷ os) = dealt actions os
dealt actions os = []

abbrev pub all_dealt : List (List Action) → List (List (Outcome Entry)) → List (Action × Record Entry)
all_dealt (actions ∷ lists) (os ∷ more) = dealt actions os ++ all_dealt lists more
all_dealt lists outcomes = []

-- ---- what they leave

-- These receipts, in commit order, are their actions, one after another from the tables: each session answered as its action is on the
-- tables that those before it leave, and s is the state of what all of them leave.
pub record AreRun (tables : Holdings) (receipts : List (Action × Record Entry)) (s : Contents Entry) : Type 0 where
  pub own : List Receipt
  pub same : map (λ x. (x.0, x.1.1)) own ≡ receipts
  pub order : List (ℕ × Record Entry)
  pub served : AreServedInOrder tables own order
  pub left : s ≡ after_run order (state_of tables)

-- The table was closed with this seat, and s is what it held then: what the receipts of the seat leave. They are all records of a world
-- that events have reached, in which the seat's actor, and each actor whose seat was joined into it, is as its turns left it.
pub record ClosesWith (table : TxTable Entry) (seat : TxSeat Entry) (s : Contents Entry) : Type 0 where
  pub closed : Closed Entry
  pub left : IsLeftBy (contents_in table) (view seat.seat).receipts closed
  pub shows : ShowsWorld (opening_of table) (actor seat.seat) (view seat.seat) (row_of closed) (map some (homes_of closed))
  pub state : s ≡ held_by closed

-- the same, as it is known between the close and what is stated of it
unfoldable pub IsClosedWith : TxTable Entry → TxSeat Entry → Contents Entry → Type 0
IsClosedWith table seat s = ClosesWith table seat s

-- Workers ran these lists: their first seat had all shares, no turn and no receipt, and has its shares again in the end, and just the
-- receipts that are reported. The attempts of each list are turns that it has kept, of its actor, or of an actor whose seat was joined into
-- it, each from the first turn on. The table was closed with it, and held s.
pub record RanAndClosed (table : TxTable Entry) (tries : ℕ) (lists : List (List Action)) (report : Report Entry) (s : Contents Entry)
    : Type 0 where
  pub seat : TxSeat Entry
  pub opens : IsReady table seat × (view seat.seat ≡ first)
  pub last : TxSeat Entry
  pub ready : IsReady table last
  pub gains : HasRun seat last report
  pub tried : IsReportOf asks_of table tries seat last lists report
  pub closes : ClosesWith table last s

-- the same, as what is known of a served run: proofs on those who asked for it don't take its seats apart
unfoldable pub WereRun : TxTable Entry → ℕ → List (List Action) → Report Entry → Contents Entry → Type 0
WereRun table tries lists report s = RanAndClosed table tries lists report s

-- Each action of each list has one receipt, or stands among the missed with the result of so many attempts of it, on a table that opened on
-- these tables, with clock 0 and so many stripes for each of the five maps and three queues. The receipts are a run of their actions in
-- commit order, and for an audit, which is given them one worker's after another's; and the tables are what they leave, balanced.
pub record IsServed (tables : Holdings) (stripes : ℕ) (lists : List (List Action)) (tries : ℕ) (served : Served) : Type 0 where
  pub outcomes : List (List (Outcome Entry))
  pub reported : AreReportedAs lists served.report outcomes
  pub table : TxTable Entry
  pub opened : opening_of table ≡ world_of (eight stripes) 0 (state_of tables)
  pub contents : contents_in table ≡ state_of tables
  pub ran : WereRun table tries lists served.report served.state
  pub run : AreRun tables (all_dealt lists outcomes) served.state
  pub audited : IsRunBetween (state_of tables) (flat_map (λ receipts. receipts) served.report.receipts) served.state
  pub left : served.state ≡ state_of served.tables
  pub balanced : IsBalanced served.tables

-- ---- the table

-- It opens on these tables, with clock 0 and so many stripes for each collection, and the seat is its first one.
pub record OpensOnTables (tables : Holdings) (stripes : ℕ) (table : TxTable Entry) (seat : TxSeat Entry) : Type 0 where
  pub ready : IsReady table seat
  pub opened : opening_of table ≡ world_of (eight stripes) 0 (state_of tables)
  pub contents : contents_in table ≡ state_of tables
  pub seat_is : view seat.seat ≡ first
