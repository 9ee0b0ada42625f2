-- The lines of sessions that workers ran.
use Rattle.std.specs.Prelude.{◌≡◌, ◌<◌, ℕ, List, [], ◌∷◌, Ok, Err, get_or, length, ⊤}
use Rattle.workers.specs.Deals.{every}
use Rattle.vac_model.specs.declared.action.Action.{Action}
use Rattle.client_sessions.specs.declared.entry.Entry.{Entry}
use Rattle.tx_engine.specs.Tasks.{Outcome}
use Rattle.text_formats.specs.declared.session_print.Line.{Line}
use Rattle.text_formats.specs.declared.session_print.Line.TheVariants as line
use Rattle.session_text.specs.Receipts.{IsLine}

-- the number of the receipt and what the session answers in it, or why it has none
abbrev pub IsLineOf : Action → Outcome Entry → Line → Type 0
IsLineOf action (Ok r) told = IsLine action r told
IsLineOf action (Err cause) told = told ≡ line.Missed cause

abbrev pub AreLinesOf : List Action → List (Outcome Entry) → List Line → Type 0
AreLinesOf [] [] [] = ⊤
AreLinesOf (a ∷ actions) (o ∷ os) (l ∷ ls) = IsLineOf a o l × AreLinesOf actions os ls
AreLinesOf _ _ _ = ⊥

-- There is a line for each action. These were dealt out to so many workers, and the lines of those of a worker show its outcomes.
pub record AreToldOf (workers : ℕ) (actions : List Action) (outcomes : List (List (Outcome Entry))) (lines : List Line) : Type 0 where
  pub many : length lines ≡ length actions
  pub each : (k : ℕ) → k < workers → AreLinesOf (every workers k actions) (get_or outcomes k []) (every workers k lines)
