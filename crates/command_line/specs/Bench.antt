-- The words of `bench`, and what they name.
use Rattle.std.specs.Prelude.{◌-◌, ◌^◌, ◌||◌, List, [], ◌∷◌, Option, Some, None, codes, if◌then◌else◌}
use Rattle.std.specs.Option.{option_map_or}
use Rattle.std.specs.Str.{bytes_eq}
use Rattle.clap.specs.Words.{App, Kinds, Row, Rule, Text, first_of, new_app, new_rule, with_rule}
use Rattle.clap.specs.declared.builder.action.ArgAction.TheVariants.{Set}
use Rattle.clap.specs.declared.error.kind.ErrorKind.TheVariants as kind
use Rattle.command_line.specs.declared.work.TimesForm.{TimesForm}
use Rattle.command_line.specs.declared.work.TimesForm.TheVariants.{Prose, Unasked, Values}
use Rattle.command_line.specs.declared.drawn.Drawn.{Drawn}
use Rattle.command_line.specs.Numbers.{Numbered, number_of, rule_of_number}

abbrev pub clients : Numbered
clients = record { name = codes "clients"; low = 1; high = 64 }

abbrev pub queries : Numbered
queries = record { name = codes "queries"; low = 1; high = 100 }

abbrev pub percent_queried : Numbered
percent_queried = record { name = codes "percent-queried"; low = 1; high = 100 }

abbrev pub relations : Numbered
relations = record { name = codes "relations"; low = 1; high = 10000 }

abbrev pub transactions : Numbered
transactions = record { name = codes "transactions"; low = 1; high = 100000 }

abbrev pub percent_user : Numbered
percent_user = record { name = codes "percent-user"; low = 0; high = 100 }

abbrev pub seed : Numbered
seed = record { name = codes "seed"; low = 0; high = 2 ^ 64 - 1 }

abbrev pub tries : Numbered
tries = record { name = codes "tries"; low = 1; high = 1000000 }

-- an option whose value may be left out
abbrev pub with_optional : Rule → Rule
with_optional rule = record rule { range = Some (record { start_inclusive = 0; end_inclusive = 1 }) }

-- `--times [FORM]`
abbrev pub times_rule : Rule
times_rule = record (with_optional (new_rule (codes "times"))) {
  long = Some (codes "times");
  action = Some Set;
  value_names = 1;
  missing = codes "prose" ∷ [];
}

abbrev pub bench_app : App
bench_app =
    let one = with_rule (new_app (codes "bench")) (rule_of_number clients (codes "2")) in
    let two = with_rule one (rule_of_number queries (codes "10")) in
    let three = with_rule two (rule_of_number percent_queried (codes "60")) in
    let four = with_rule three (rule_of_number relations (codes "100")) in
    let five = with_rule four (rule_of_number transactions (codes "1000")) in
    let six = with_rule five (rule_of_number percent_user (codes "90")) in
    let seven = with_rule six (rule_of_number seed (codes "1")) in
    let eight = with_rule seven (rule_of_number tries (codes "1000")) in
    with_rule eight times_rule

-- the sessions that are to be drawn and run
abbrev pub drawn_of : List Row → Drawn
drawn_of rows = record {
  options = record {
    clients = number_of clients rows;
    queries = number_of queries rows;
    percent_queried = number_of percent_queried rows;
    relations = number_of relations rows;
    transactions = number_of transactions rows;
    percent_user = number_of percent_user rows;
  };
  seed = number_of seed rows;
  tries = number_of tries rows;
}

-- how what the run takes is asked for
abbrev pub form_named : Text → TimesForm
form_named word = if bytes_eq word (codes "csv") then Values else Prose

abbrev pub form_of : List Row → TimesForm
form_of rows = option_map_or form_named (first_of (codes "times") rows) Unasked

-- what is wrong with a word that is to name a form, if there is one
abbrev pub word_faults : Option Text → Kinds
word_faults None = []
word_faults (Some word) = if bytes_eq word (codes "prose") || bytes_eq word (codes "csv") then [] else kind.InvalidValue ∷ []

abbrev pub form_faults : List Row → Kinds
form_faults rows = word_faults (first_of (codes "times") rows)
