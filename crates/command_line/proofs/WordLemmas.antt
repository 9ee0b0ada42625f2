-- What clap's answer says of the words.
use Rattle.std.proofs.Common.{◌≡◌, ◌∙◌, refl, sym, ap, ap₂, inl, inr, List, [], ◌∷◌, Option, Some, None, option_map, codes}
use Rattle.std.specs.Prelude.{option_and_then, unwrap_or}
use Rattle.std.specs.Box.{box_value}
use Rattle.std.proofs.lemmas.Option.{same_Some}
use Rattle.seq_model.proofs.LogicLemmas.{some-none}
use Rattle.clap.specs.Words.{HasKind, IsAmong, Kinds, Row, Text, first_of, found_of, kind_of, rows_of, subcommand_name_of}
use Rattle.clap.specs.Words.{subcommand_rows_of}
use Rattle.clap.specs.declared.error.Error.{Error}
use Rattle.clap.specs.declared.error.kind.ErrorKind.TheVariants as kind
use Rattle.clap.specs.declared.parser.matches.ArgMatches.{ArgMatches}
use Rattle.clap.specs.declared.parser.matches.ArgMatches.TheViews.{out-ArgMatches, out-SubCommand}
use Rattle.command_line.specs.declared.work.Task.TheVariants.{OnFile}
use Rattle.command_line.specs.declared.work.Work.TheVariants.{Step}
use Rattle.command_line.specs.Words.{AskForInformation, IsInformation, faults, file_word, if_none, task_by, task_of}

-- an error that is not of memory is one of the words' faults
pub is_fault : (kinds : Kinds) (error : Error) → HasKind kinds error → (kind_of error ≡ kind.OutOfMemory → ⊥)
    → IsAmong (kind_of error) kinds
is_fault kinds error (inl memory) other = absurd (other memory)
is_fault kinds error (inr among) other = among

pub no_file : (kinds : Kinds) (error : Error) (file : Option Text) → IsAmong (kind_of error) kinds → if_none kinds file ≡ None
no_file [] error file among = absurd among
no_file (k ∷ ks) error file among = refl

pub not_taken : (kinds : Kinds) (error : Error) → IsAmong (kind_of error) kinds → kinds ≡ [] → ⊥
not_taken [] error among none = among
not_taken (k ∷ ks) error among none = cc

pub asks_for_information : (words : List Text) (error : Error) → HasKind (faults words) error → IsInformation error
    → AskForInformation words
asks_for_information words error has (inl help) =
    inl (rw (sym help) (is_fault (faults words) error has (λ memory.
    let no : kind.DisplayHelp ≡ kind.OutOfMemory = sym help ∙ memory in cc)))
asks_for_information words error has (inr version) =
    inr (rw (sym version) (is_fault (faults words) error has (λ memory.
    let no : kind.DisplayVersion ≡ kind.OutOfMemory = sym version ∙ memory in cc)))

-- the subcommand that was met has its name, and what stands in FILE's place is in its rows
name_of : {B : Type 0} (met : Option B) (both : B → Text × List Row)
    → option_map (λ (p : Text × List Row). p.0) (option_map both met) ≡ option_map (λ b. (both b).0) met
name_of None both = refl
name_of (Some b) both = refl

met_with : (met : Option (Text × List Row)) (name : Text) (rows : List Row)
    → Some name ≡ option_map (λ (p : Text × List Row). p.0) met → Some rows ≡ option_map (λ (p : Text × List Row). p.1) met
    → task_by name rows ≡ task_of met
met_with None name rows named rowed = absurd (some-none name named)
met_with (Some met) name rows named rowed = ap₂ task_by (same_Some name met.0 named) (same_Some rows met.1 rowed)

met_none : (met : Option (Text × List Row)) → None ≡ option_map (λ (p : Text × List Row). p.0) met → OnFile Step ≡ task_of met
met_none None named = refl
met_none (Some met) named = absurd (some-none met.0 (sym named))

names_are : (m : ArgMatches) → option_map (λ (p : Text × List Row). p.0) (subcommand_rows_of m) ≡ subcommand_name_of m
names_are m =
    name_of (out-ArgMatches m).subcommand
    (λ b. ((out-SubCommand (box_value b)).name.now, rows_of (found_of (out-SubCommand (box_value b)).matches)))

-- the task of the subcommand that was met, by its name and its rows; without one it is the first
pub task_met : (m : ArgMatches) (name : Text) (rows : List Row) → Some name ≡ subcommand_name_of m
    → Some rows ≡ option_map (λ (p : Text × List Row). p.1) (subcommand_rows_of m) → task_by name rows ≡ task_of (subcommand_rows_of m)
task_met m name rows named rowed = met_with (subcommand_rows_of m) name rows (named ∙ sym (names_are m)) rowed

pub task_missed : (m : ArgMatches) → None ≡ subcommand_name_of m → OnFile Step ≡ task_of (subcommand_rows_of m)
task_missed m named = met_none (subcommand_rows_of m) (named ∙ sym (names_are m))

pub file_in_rows : (met : Option (Text × List Row)) → file_word met ≡ option_and_then (first_of (codes "FILE")) (option_map (λ p. p.1) met)
file_in_rows None = refl
file_in_rows (Some p) = refl
