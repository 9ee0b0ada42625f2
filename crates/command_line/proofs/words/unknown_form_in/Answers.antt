use Rattle.std.proofs.Common.{◌∙◌, ap, sym, codes, List, Option}
use Rattle.std.specs.Prelude.{option_and_then}
use Rattle.clap.specs.Words.{Row, first_of}
use Rattle.command_line.specs.Bench.{word_faults}
use Rattle.command_line.proofs.words.unknown_form_in.Goals as goal

pub returns-in-Some : goal.returns-in-Some
returns-in-Some c =
    ap (λ (o : Option (List Row)). word_faults (option_and_then (first_of (codes "times")) o)) (sym c.in-Some.ensures.rows)
    ∙ c.unknown_form.ensures

pub returns-in-None : goal.returns-in-None
returns-in-None c = ap (λ (o : Option (List Row)). word_faults (option_and_then (first_of (codes "times")) o)) (sym c.in-None.ensures.rows)
