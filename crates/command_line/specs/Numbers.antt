-- Options whose values are numbers: how they are declared to `clap`, and what is read of its rows.
use Rattle.std.specs.Prelude.{◌^◌, ℕ, List, [], ◌∷◌, Some, if◌then◌else◌, nat_lt}
use Rattle.std.specs.Option.{option_map_or}
use Rattle.std.specs.Str.Parse.{digits_value, without_leading_plus}
use Rattle.clap.specs.Words.{Row, Rule, Text, first_of, new_rule}
use Rattle.clap.specs.ValueTests.{is_unsigned_in}
use Rattle.clap.specs.declared.builder.action.ArgAction.TheVariants.{Set}
use Rattle.clap.specs.declared.builder.value_parser.ValueParser.TheVariants.{Unsigned}
use Rattle.command_line.specs.declared.numbers.Number.{Number}

-- an option, and the range of its number
pub record Numbered : Type 0 where
  pub name : Text
  pub low : ℕ
  pub high : ℕ

abbrev pub as_numbered : Number → Numbered
as_numbered number = record { name = number.name.now; low = number.low; high = number.high }

-- an option that has this number where it is left out
abbrev pub rule_of_number : Numbered → Text → Rule
rule_of_number number default = record (new_rule number.name) {
  long = Some number.name;
  action = Some Set;
  value_names = 1;
  defaults = default ∷ [];
  parser = Some (Unsigned number.low number.high);
}

-- the number that a text writes in decimal digits; words in which one writes none, or one that 64 bits don't hold, are refused
abbrev pub number_of_text : Text → ℕ
number_of_text text = if is_unsigned_in 0 (2 ^ 64) text then digits_value 10 (without_leading_plus text) else 0

-- the number that is nearest to this one within the range; words with one outside it are refused
abbrev pub within : Numbered → ℕ → ℕ
within number n = if nat_lt n number.low then number.low else (if nat_lt number.high n then number.high else n)

-- the number that is written for the option of this name
abbrev pub written_of : Text → List Row → ℕ
written_of name rows = option_map_or number_of_text (first_of name rows) 0

-- the number that stands for an option
abbrev pub number_of : Numbered → List Row → ℕ
number_of number rows = within number (written_of number.name rows)
