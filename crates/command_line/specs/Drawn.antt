-- The result of drawn sessions.
use Rattle.std.specs.Prelude.{◌≡◌, ◌≤◌, ◌+◌, ◌<◌, ℕ, List, [], ◌∷◌, ◌++◌, codes, get_or, length}
use Rattle.std.specs.Fmt.{decimal}
use Rattle.text_formats.specs.Openings.{opening_of}
use Rattle.text_formats.specs.Options.{AreWithin}
use Rattle.text_formats.specs.DrawnActions.{sessions_of}
use Rattle.vac_model.specs.declared.action.Action.{Action}
use Rattle.session_text.specs.SessionPrints.{ending}
use Rattle.workers.specs.declared.served.Served.{Served}
use Rattle.command_line.specs.declared.drawn.Drawn.{Drawn}
use Rattle.command_line.specs.Runs.{IsInspected}

-- the options are within their ranges, and each session has an attempt
pub record IsDrawable (d : Drawn) : Type 0 where
  pub within : AreWithin d.options
  pub some : 1 ≤ d.tries

-- the sessions of each worker, as they are drawn
pub record AreDrawn (d : Drawn) (lists : List (List Action)) : Type 0 where
  pub many : length lists ≡ d.options.clients
  pub each : (k : ℕ) → k < d.options.clients → get_or lists k [] ≡ sessions_of d.seed (k + 1) d.options

-- Workers have served the drawn sessions from the drawn tables, and have missed so many.
pub record IsDrawnRun (d : Drawn) (missed : ℕ) : Type 0 where
  pub lists : List (List Action)
  pub drawn : AreDrawn d lists
  pub served : Served
  pub inspected : IsInspected (opening_of d.seed d.options) lists d.tries served
  pub missed_are : missed ≡ length served.report.missed

abbrev pub line_of_number : List ℕ → ℕ → List ℕ
line_of_number name n = name ++ (codes " " ++ (decimal n ++ (10 ∷ [])))

-- what is printed of them
abbrev pub drawn_text : Drawn → ℕ → List ℕ
drawn_text d missed =
    line_of_number (codes "clients") d.options.clients
    ++ (line_of_number (codes "sessions") d.options.transactions ++ (line_of_number (codes "missed") missed ++ ending))

pub record IsDrawnOutput (d : Drawn) (bytes : List ℕ) : Type 0 where
  pub missed : ℕ
  pub run : IsDrawnRun d missed
  pub written : bytes ≡ drawn_text d missed
