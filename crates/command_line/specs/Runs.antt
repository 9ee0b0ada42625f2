-- The result of the sessions of a file where workers run them.
use Rattle.std.specs.Prelude.{◌≡◌, ℕ, List, flat_map}
use Rattle.workers.specs.Deals.{AreDealt}
use Rattle.seq_model.specs.declared.record.Record.{Record}
use Rattle.seq_model.specs.declared.refusal.Refusal.TheVariants.{Memory as OutOfMemory}
use Rattle.vac_model.specs.declared.action.Action.{Action}
use Rattle.vac_model.specs.Holdings.{Holdings}
use Rattle.client_sessions.specs.declared.entry.Entry.{Entry}
use Rattle.client_sessions.specs.Holding.{state_of}
use Rattle.text_formats.specs.Sessions.{IsSessionText}
use Rattle.session_text.specs.declared.fault.RunFault.{RunFault}
use Rattle.session_text.specs.declared.fault.RunFault.TheVariants.{Refused}
use Rattle.session_text.specs.declared.printing.SessionRun.{SessionRun}
use Rattle.session_text.specs.declared.printing.TheConstants.{STRIPES}
use Rattle.session_text.specs.Findings.{IsSound}
use Rattle.session_text.specs.SessionPrints.{run_text}
use Rattle.workers.specs.declared.served.Served.{Served}
use Rattle.workers.specs.Serving.{IsServed}
use Rattle.command_line.specs.declared.file.TheConstants.{TRIES}
use Rattle.command_line.specs.Lines.{AreToldOf}

-- the receipts of all workers, one worker's after another's
abbrev pub receipts_of : Served → List (Record Entry)
receipts_of served = flat_map (λ receipts. receipts) served.report.receipts

-- Workers have served these lists from the tables, on a table with 64 stripes for each collection, each session with at most so many
-- attempts; what they reported was audited, and the tables are balanced.
pub record IsInspected (tables : Holdings) (lists : List (List Action)) (tries : ℕ) (served : Served) : Type 0 where
  pub made : IsServed tables STRIPES lists tries served
  pub sound : IsSound (state_of tables) (receipts_of served) served.state served.tables

-- The actions were dealt out to so many workers, which have served them; the lines have the result of each, and the tables are what they
-- leave.
pub record IsServedRun (workers : ℕ) (tables : Holdings) (actions : List Action) (run : SessionRun) : Type 0 where
  pub lists : List (List Action)
  pub dealt : AreDealt workers actions lists
  pub served : Served
  pub inspected : IsInspected tables lists TRIES served
  pub told : AreToldOf workers actions inspected.made.outcomes run.lines.items
  pub left : run.tables ≡ served.tables

-- The text spells tables and actions; the output prints the result of the sessions of these actions by so many workers.
pub record IsServedOutput (workers : ℕ) (text bytes : List ℕ) : Type 0 where
  pub tables : Holdings
  pub actions : List Action
  pub run : SessionRun
  pub spelled : IsSessionText text tables actions
  pub made : IsServedRun workers tables actions run
  pub written : bytes ≡ run_text run

-- why sessions that are served have no result: an allocation failed, and nothing else
abbrev pub IsWantOfMemory : RunFault → Type 0
IsWantOfMemory (Refused refusal) = refusal ≡ OutOfMemory
IsWantOfMemory fault = ⊥
