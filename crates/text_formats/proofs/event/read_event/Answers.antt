use Rattle.text_formats.proofs.EventLemmas.{alternation_of}
use Rattle.text_formats.proofs.event.read_event.Goals as goal

-- src/event.rt:12:1
pub returns-in-alt-clause-only : goal.returns-in-alt-clause-only
returns-in-alt-clause-only c line event = alternation_of c.args.tokens.now _ _ line c.in-alt.len_below c.in-alt.len_at_least c.in-alt.is-alt
    c.read_alternation.ensures.only event
