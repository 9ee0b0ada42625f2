use Rattle.std.proofs.Common.{◌∙◌, ap, sym, codes}
use Rattle.std.specs.Prelude.{option_and_then}
use Rattle.std.proofs.lemmas.Result.{IfOk-weaker}
use Rattle.clap.specs.Words.{first_of, found_of, subcommand_rows_of}
use Rattle.clap.proofs.WalkLemmas.{first_value-rows}
use Rattle.command_line.specs.Words.{not_dash}
use Rattle.command_line.proofs.WordLemmas.{file_in_rows}
use Rattle.command_line.proofs.words.file_in.Goals as goal

pub returns : goal.returns
returns c =
    let word = file_in_rows (subcommand_rows_of c.args.matches.now) in
    let first = c.get_str.ensures ∙ first_value-rows (found_of c.in-Some.words.now) (codes "FILE") in
    let same = first ∙ ap (option_and_then (first_of (codes "FILE"))) c.in-Some.ensures.rows ∙ sym word in
    IfOk-weaker c.file_but_dash.result _ _ (λ name h. h ∙ ap (option_and_then not_dash) same) c.file_but_dash.ensures
