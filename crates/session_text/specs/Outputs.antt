-- What is printed of a session file.
use Rattle.std.specs.Prelude.{◌≡◌, ℕ, List}
use Rattle.vac_model.specs.declared.action.Action.{Action}
use Rattle.vac_model.specs.Holdings.{Holdings}
use Rattle.text_formats.specs.Sessions.{IsSessionText}
use Rattle.session_text.specs.declared.printing.SessionRun.{SessionRun}
use Rattle.session_text.specs.SessionPrints.{run_text}
use Rattle.session_text.specs.Runs.{IsSessionRun}

-- The text spells tables and actions; the output prints the result of the sessions of these actions, one after another, on these tables.
pub record IsOutput (text bytes : List ℕ) : Type 0 where
  pub tables : Holdings
  pub actions : List Action
  pub run : SessionRun
  pub spelled : IsSessionText text tables actions
  pub made : IsSessionRun tables actions run
  pub written : bytes ≡ run_text run
