-- What is printed of sessions.
use Rattle.std.specs.Prelude.{ℕ, List, ◌++◌, codes}
use Rattle.text_formats.specs.SessionPrints.{printed}
use Rattle.session_text.specs.declared.printing.SessionRun.{SessionRun}

-- what the last two lines say
abbrev pub ending : List ℕ
ending = codes "audit ok\nbalanced yes\n"

abbrev pub run_text : SessionRun → List ℕ
run_text run = printed run.lines.items run.tables ++ ending
