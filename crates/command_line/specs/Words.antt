-- The words that the program takes: `step FILE`, `explore FILE`, `vacation FILE` and `bench`, the latter three with options, and `--help`
-- and `--version`.
use Rattle.std.specs.Prelude.{◌≡◌, ◌⊎◌, ◌==◌, ℕ, true, List, [], ◌∷◌, Option, Some, None, codes, option_and_then, option_map, if◌then◌else◌}
use Rattle.std.specs.Str.{bytes_eq}
use Rattle.clap.specs.Words.{App, IsAmong, Kinds, Row, Rule, Text, fault_of, first_of, kind_of, new_app, new_rule, subcommand_of, with_rule}
use Rattle.clap.specs.Kinds.{or_else}
use Rattle.clap.specs.Words.{with_subcommand}
use Rattle.std.specs.Option.{option_map_or}
use Rattle.clap.specs.declared.builder.action.ArgAction.TheVariants.{Set, SetTrue}
use Rattle.clap.specs.declared.error.Error.{Error}
use Rattle.clap.specs.declared.error.kind.ErrorKind.TheVariants as kind
use Rattle.command_line.specs.declared.work.Task.{Task}
use Rattle.command_line.specs.declared.work.Task.TheVariants.{OnDrawn, OnFile}
use Rattle.command_line.specs.declared.work.Work.{Work}
use Rattle.command_line.specs.declared.work.Work.TheVariants.{Explore, Lanes, Served, Step, Vacation}
use Rattle.command_line.specs.Bench.{bench_app, drawn_of, form_of, word_faults}
use Rattle.command_line.specs.Numbers.{Numbered, number_of, rule_of_number}

abbrev pub file_rule : Rule
file_rule = record (new_rule (codes "FILE")) { action = Some Set; required = true }

-- `--workers N`
abbrev pub workers : Numbered
workers = record { name = codes "workers"; low = 0; high = 64 }

-- `--lanes`
abbrev pub lanes_rule : Rule
lanes_rule = record (new_rule (codes "lanes")) { long = Some (codes "lanes"); action = Some SetTrue }

-- `--most N`
abbrev pub most : Numbered
most = record { name = codes "most"; low = 1; high = 1000000000 }

abbrev pub step_app : App
step_app = with_rule (with_rule (new_app (codes "step")) lanes_rule) file_rule

abbrev pub explore_app : App
explore_app = with_rule (with_rule (new_app (codes "explore")) (rule_of_number most (codes "100000"))) file_rule

abbrev pub vacation_app : App
vacation_app = with_rule (with_rule (new_app (codes "vacation")) (rule_of_number workers (codes "0"))) file_rule

-- before its subcommands are there
abbrev pub bare_app : App
bare_app = record (new_app (codes "proust_tool")) {
  top = record (new_app (codes "proust_tool")).top { no_binary_name = true; subcommand_required = true; has_version = true };
}

abbrev pub tool_app : App
tool_app =
    with_subcommand (with_subcommand (with_subcommand (with_subcommand bare_app step_app.top) explore_app.top) vacation_app.top)
    bench_app.top

-- what is wrong with the form that they ask the times in
abbrev pub faults_of_forms : Option (Text × List Row) → Kinds
faults_of_forms met = word_faults (option_and_then (first_of (codes "times")) (option_map (λ p. p.1) met))

-- what is wrong with the words: of which kinds the fault may be
abbrev pub faults : List Text → Kinds
faults words = or_else (fault_of tool_app words) (faults_of_forms (subcommand_of tool_app words))

abbrev pub AreTaken : List Text → Type 0
AreTaken words = faults words ≡ []

-- help, or the version
abbrev pub IsInformation : Error → Type 0
IsInformation error = (kind_of error ≡ kind.DisplayHelp) ⊎ (kind_of error ≡ kind.DisplayVersion)

-- the words ask for one of them
abbrev pub AskForInformation : List Text → Type 0
AskForInformation words = IsAmong kind.DisplayHelp (faults words) ⊎ IsAmong kind.DisplayVersion (faults words)

-- the sessions of a file are run by so many workers, or by none, one after another
abbrev pub vacation_work : ℕ → Work
vacation_work n = if n == 0 then Vacation else Served n

-- a script's run is printed as lanes, where that is asked for
abbrev pub step_work_by : Text → Work
step_work_by word = if bytes_eq word (codes "true") then Lanes else Step

abbrev pub step_work : List Row → Work
step_work rows = option_map_or step_work_by (first_of (codes "lanes") rows) Step

-- the task of the subcommand of this name: of four, what is none of the last three is the first
abbrev pub task_by : Text → List Row → Task
task_by name rows =
    if bytes_eq name (codes "vacation") then OnFile (vacation_work (number_of workers rows))
    else (if bytes_eq name (codes "bench") then OnDrawn (drawn_of rows) (form_of rows)
    else (if bytes_eq name (codes "explore") then OnFile (Explore (number_of most rows)) else OnFile (step_work rows)))

abbrev pub task_of : Option (Text × List Row) → Task
task_of None = OnFile Step
task_of (Some met) = task_by met.0 met.1

abbrev pub task_named : List Text → Task
task_named words = task_of (subcommand_of tool_app words)

-- what stands in FILE's place
abbrev pub file_word : Option (Text × List Row) → Option Text
file_word met = option_and_then (λ p. first_of (codes "FILE") p.1) met

abbrev pub not_dash : Text → Option Text
not_dash file = if bytes_eq file (codes "-") then None else Some file

abbrev pub if_none : Kinds → Option Text → Option Text
if_none [] file = file
if_none (k ∷ ks) file = None

-- the file that the words name
abbrev pub named_file : List Text → Option Text
named_file words = if_none (faults words) (option_and_then not_dash (file_word (subcommand_of tool_app words)))
