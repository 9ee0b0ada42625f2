use Rattle.text_formats.proofs.AskLemmas.{units_left_out}
use Rattle.text_formats.proofs.session_line.read_units.Goals as goal

pub returns-in-Some-clause-only : goal.returns-in-Some-clause-only
returns-in-Some-clause-only c = units_left_out c.args.tokens.now _ c.in-Some._kind c.in-Some.ensures.found
