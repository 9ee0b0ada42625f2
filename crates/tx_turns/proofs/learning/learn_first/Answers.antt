use Rattle.std.proofs.Common.{◌∙◌, sym, arith}
use Rattle.tx_turns.proofs.NextStepLemmas.{learns_first, learns_nothing_first}
use Rattle.tx_turns.proofs.learning.learn_first.Goals as goal

pub returns-clause-learns : goal.returns-clause-learns
returns-clause-learns c = learns_first c.args.actor.now c.first.new.self c.args.found c.first.result c.requires.place
    (omega (arith, c.if-len-eq0.false, c.len.ensures)) c.first.ensures.actor c.first.ensures.answer

pub returns-then-len-eq0-clause-learns : goal.returns-then-len-eq0-clause-learns
returns-then-len-eq0-clause-learns c = learns_nothing_first c.args.actor.now c.args.found c.requires.place (sym c.len.ensures
    ∙ c.if-len-eq0.true)
