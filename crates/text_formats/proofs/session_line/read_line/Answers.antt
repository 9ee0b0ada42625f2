use Rattle.std.proofs.Common.{arith}
use Rattle.text_formats.proofs.ActionLemmas.{have_of_five}
use Rattle.text_formats.proofs.session_line.read_line.Goals as goal

pub returns-in-have-clause-only : goal.returns-in-have-clause-only
returns-in-have-clause-only c line is =
    c.read_have.ensures.only line
    (have_of_five c.args.tokens.now _ line (omega (arith, c.in-have.len_at_least, c.in-have.len_below)) c.in-have.is-have is)
