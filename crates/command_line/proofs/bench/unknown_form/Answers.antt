use Rattle.std.proofs.Common.{◌∙◌, ap, sym, codes}
use Rattle.clap.specs.Words.{found_of}
use Rattle.clap.proofs.WalkLemmas.{first_value-rows}
use Rattle.command_line.specs.Bench.{word_faults}
use Rattle.command_line.proofs.bench.unknown_form.Goals as goal

pub returns : goal.returns
returns c =
    let first = c.get_str.ensures ∙ first_value-rows (found_of c.args.words.now) (codes "times") in
    ap word_faults (sym first) ∙ c.unknown_among.ensures
