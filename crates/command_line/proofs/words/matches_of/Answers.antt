use Rattle.std.proofs.Common.{◌≡◌, ◌∙◌, true, refl, sym, ap, subst, map, [], List, Option}
use Rattle.std.specs.String.{string_bytes}
use Rattle.std.proofs.lemmas.Result.{IfOk-weaker}
use Rattle.clap.specs.Kinds.{or_else}
use Rattle.clap.specs.Words.{App, FailsBy, HasKind, Kinds, Row, Text, fault_of, is_simple, is_simple_and_free, subcommand_of}
use Rattle.clap.specs.Words.{subcommand_rows_of}
use Rattle.command_line.specs.Words.{faults_of_forms, tool_app}
use Rattle.command_line.proofs.FormLemmas.{has_first}
use Rattle.command_line.proofs.words.matches_of.Goals as goal

-- what the words are read by is computed once
simple : is_simple tool_app ≡ true
simple = refl

free : is_simple_and_free tool_app ≡ true
free = refl

pub returns-in-Ok-clause-faults : goal.returns-in-Ok-clause-faults
returns-in-Ok-clause-faults c =
    let words = map string_bytes c.args.words.now in
    let is = c.in_ok-command.ensures in
    let none : fault_of tool_app words ≡ [] = subst (λ (a : App). fault_of a words ≡ []) is
    (c.in-Ok.ensures.kinds (subst (λ (a : App). is_simple_and_free a ≡ true) (sym is) free)) in
    let met = subst (λ (a : App). subcommand_rows_of c.in-Ok.matches ≡ subcommand_of a words) is
    (c.in-Ok.ensures.matches (subst (λ (a : App). is_simple a ≡ true) (sym is) simple)).1 in
    subst (λ (kinds : Kinds). FailsBy (or_else kinds (faults_of_forms (subcommand_of tool_app words))) c.with_known_form.result) (sym none)
    (subst (λ (m : Option (Text × List Row)). FailsBy (faults_of_forms m) c.with_known_form.result) met c.with_known_form.ensures.faults)

pub returns-in-Err-clause-faults : goal.returns-in-Err-clause-faults
returns-in-Err-clause-faults c =
    let words = map string_bytes c.args.words.now in
    let is = c.in_ok-command.ensures in
    has_first (fault_of tool_app words) (faults_of_forms (subcommand_of tool_app words)) c.in-Err.error
    (subst (λ (a : App). HasKind (fault_of a words) c.in-Err.error) is
    (c.in-Err.ensures.kinds (subst (λ (a : App). is_simple_and_free a ≡ true) (sym is) free)))

pub returns-in-Ok-clause-subcommand : goal.returns-in-Ok-clause-subcommand
returns-in-Ok-clause-subcommand c =
    let words = map string_bytes c.args.words.now in
    let is = c.in_ok-command.ensures in
    let met = subst (λ (a : App). subcommand_rows_of c.in-Ok.matches ≡ subcommand_of a words) is
    (c.in-Ok.ensures.matches (subst (λ (a : App). is_simple a ≡ true) (sym is) simple)).1 in
    IfOk-weaker c.with_known_form.result _ _ (λ m h. ap subcommand_rows_of h ∙ met) c.with_known_form.ensures.same
