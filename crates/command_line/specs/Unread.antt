-- The outcomes of the sessions of workers that have no line yet, as receipts and missed jobs.
use Rattle.std.specs.Prelude.{◌≡◌, ◌<◌, ℕ, List, [], ◌∷◌, ◌++◌, Ok, Err, length, map, ⊤}
use Rattle.workers.specs.Deals.{AreDealt}
use Rattle.seq_model.specs.declared.record.Record.{Record}
use Rattle.seq_model.specs.declared.job.Ask.TheVariants as ask
use Rattle.seq_model.specs.Programs.{after, asked, replies_of}
use Rattle.vac_model.specs.declared.action.Action.{Action}
use Rattle.vac_model.specs.Holdings.{Holdings}
use Rattle.client_sessions.specs.declared.entry.Entry.{Entry}
use Rattle.client_sessions.specs.Sessions.{session}
use Rattle.seq_model.specs.declared.causes.LastAbort.{LastAbort}
use Rattle.tx_engine.specs.Tasks.{Outcome, missed_in, receipts_in}
use Rattle.text_formats.specs.declared.session_print.Line.{Line}
use Rattle.session_text.specs.declared.printing.SessionRun.{SessionRun}
use Rattle.workers.specs.declared.served.Served.{Served}
use Rattle.workers.specs.Serving.{all_missed}
use Rattle.command_line.specs.declared.file.TheConstants.{TRIES}
use Rattle.command_line.specs.Lines.{AreLinesOf}
use Rattle.command_line.specs.Runs.{IsInspected}

-- after the replies in its receipt the session of the action is done
abbrev pub IsOwn : Action → Outcome Entry → Type 0
IsOwn action (Ok r) = asked (after (session action) (replies_of r.calls)) ≡ ask.Done
IsOwn action (Err cause) = ⊤

abbrev pub AreOwn : List Action → List (Outcome Entry) → Type 0
AreOwn [] [] = ⊤
AreOwn (a ∷ actions) (o ∷ os) = IsOwn a o × AreOwn actions os
AreOwn _ _ = ⊥

-- the first of these missed jobs is one of a worker after this one
abbrev pub IsBeyond : ℕ → List (ℕ × ℕ × LastAbort) → Type 0
IsBeyond worker [] = ⊤
IsBeyond worker (job ∷ jobs) = worker < job.0

-- the first of them is the one at this place of this worker's list
abbrev pub IsFirst : ℕ → ℕ → List (ℕ × ℕ × LastAbort) → Type 0
IsFirst worker place [] = ⊥
IsFirst worker place (job ∷ jobs) = (job.0 ≡ worker) × (job.1 ≡ place)

-- ---- of one worker
-- These are the outcomes of a worker's sessions from this place on: its receipts, and those that it missed before what others did.
pub record AreUnread (worker place : ℕ) (actions : List Action) (os : List (Outcome Entry)) (later : List (ℕ × ℕ × LastAbort))
    (receipts : List (Record Entry)) (missed : List (ℕ × ℕ × LastAbort)) : Type 0 where
  pub own : AreOwn actions os
  pub receipts_are : receipts ≡ receipts_in os
  pub missed_are : missed ≡ missed_in worker place os ++ later
  pub beyond : IsBeyond worker later

-- The next one of a worker's sessions is that of this action and has this outcome, and those are the outcomes of the sessions after it.
pub record IsNext (worker place : ℕ) (action : Action) (o : Outcome Entry) (os : List (Outcome Entry)) (later : List (ℕ × ℕ × LastAbort))
    (receipts : List (Record Entry)) (missed : List (ℕ × ℕ × LastAbort)) : Type 0 where
  pub own : IsOwn action o
  pub receipts_are : receipts ≡ receipts_in (o ∷ os)
  pub missed_are : missed ≡ missed_in worker place (o ∷ os) ++ later
  pub beyond : IsBeyond worker later

-- there is such an outcome
pub record HasNext (worker place : ℕ) (action : Action) (receipts : List (Record Entry)) (missed : List (ℕ × ℕ × LastAbort)) : Type 0 where
  pub o : Outcome Entry
  pub os : List (Outcome Entry)
  pub later : List (ℕ × ℕ × LastAbort)
  pub is : IsNext worker place action o os later receipts missed

-- there are such outcomes of the sessions of these actions
pub record HasUnread (worker place : ℕ) (actions : List Action) (receipts : List (Record Entry)) (missed : List (ℕ × ℕ × LastAbort))
    : Type 0 where
  pub os : List (Outcome Entry)
  pub later : List (ℕ × ℕ × LastAbort)
  pub are : AreUnread worker place actions os later receipts missed

-- ---- the same of all workers from one on
abbrev pub AreAllOwn : List (List Action) → List (List (Outcome Entry)) → Type 0
AreAllOwn [] [] = ⊤
AreAllOwn (actions ∷ lists) (os ∷ more) = AreOwn actions os × AreAllOwn lists more
AreAllOwn _ _ = ⊥

pub record AreAllUnread (first : ℕ) (lists : List (List Action)) (outcomes : List (List (Outcome Entry)))
    (receipts : List (List (Record Entry))) (missed : List (ℕ × ℕ × LastAbort)) : Type 0 where
  pub own : AreAllOwn lists outcomes
  pub receipts_are : receipts ≡ map receipts_in outcomes
  pub missed_are : missed ≡ all_missed first outcomes

pub record HasAllUnread (first : ℕ) (lists : List (List Action)) (receipts : List (List (Record Entry)))
    (missed : List (ℕ × ℕ × LastAbort)) : Type 0 where
  pub outcomes : List (List (Outcome Entry))
  pub are : AreAllUnread first lists outcomes receipts missed

-- the lines of the sessions of each worker
abbrev pub AreAllLines : List (List Action) → List (List (Outcome Entry)) → List (List Line) → Type 0
AreAllLines [] [] [] = ⊤
AreAllLines (actions ∷ lists) (os ∷ more) (ls ∷ queues) = AreLinesOf actions os ls × AreAllLines lists more queues
AreAllLines _ _ _ = ⊥

-- The lines are those of so many sessions, in the order in which they were dealt out to the lists.
pub record IsTold (lists : List (List Action)) (outcomes : List (List (Outcome Entry))) (total : ℕ) (lines : List Line) : Type 0 where
  pub many : length lines ≡ total
  pub queues : List (List Line)
  pub gathered : AreDealt (length lists) lines queues
  pub each : AreAllLines lists outcomes queues

-- Workers have served these lists from the tables, and what they reported was audited; the lines show the outcomes of so many sessions that
-- were dealt out to the lists, and the tables are what they leave.
pub record IsToldRun (tables : Holdings) (lists : List (List Action)) (total : ℕ) (run : SessionRun) : Type 0 where
  pub served : Served
  pub inspected : IsInspected tables lists TRIES served
  pub told : IsTold lists inspected.made.outcomes total run.lines.items
  pub left : run.tables ≡ served.tables
