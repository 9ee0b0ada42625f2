-- The result of the sessions of a file, one after another.
use Rattle.std.specs.Prelude.{◌≡◌, List, [], ◌∷◌, map, ⊤}
use Rattle.seq_model.specs.declared.record.Record.{Record}
use Rattle.seq_model.specs.Runs.{IsInCommitOrder, IsRun}
use Rattle.vac_model.specs.declared.action.Action.{Action}
use Rattle.vac_model.specs.Holdings.{Holdings}
use Rattle.client_sessions.specs.declared.entry.Entry.{Entry}
use Rattle.client_sessions.specs.Holding.{state_of}
use Rattle.client_sessions.specs.Runs.{AreDone, AreSessions, Deal, after_deals}
use Rattle.text_formats.specs.declared.session_print.Line.{Line}
use Rattle.text_formats.specs.declared.session_print.Line.TheVariants.{Done}
use Rattle.vacation_core.specs.Orders.{of_client}
use Rattle.session_text.specs.declared.printing.SessionRun.{SessionRun}
use Rattle.session_text.specs.Findings.{IsSound}

-- each line has the number of a receipt, and what its action was answered
abbrev pub AreTold : List Deal → List (Record Entry) → List Line → Type 0
AreTold [] [] [] = ⊤
AreTold (d ∷ ds) (r ∷ rs) (l ∷ ls) = (l ≡ Done r.number d.1) × AreTold ds rs ls
AreTold _ _ _ = ⊥

-- The actions were done one after another from the tables, each as the session of a receipt; the receipts are a run, in their order. The
-- lines have their numbers and what they were answered, and the tables are what they leave. The receipts were audited, and the tables are
-- balanced.
pub record IsSessionRun (tables : Holdings) (actions : List Action) (made : SessionRun) : Type 0 where
  pub deals : List Deal
  pub receipts : List (Record Entry)
  pub asked : map (λ d. d.0) deals ≡ actions
  pub replies : AreDone deals tables
  pub sessions : AreSessions deals (of_client receipts)
  pub ordered : IsInCommitOrder (of_client receipts)
  pub are_run : IsRun (of_client receipts) (state_of tables)
  pub told : AreTold deals receipts made.lines.items
  pub left : made.tables ≡ after_deals deals tables
  pub sound : IsSound (state_of tables) receipts (state_of made.tables) made.tables
