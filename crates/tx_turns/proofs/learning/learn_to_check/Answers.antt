use Rattle.std.proofs.Common.{arith}
use Rattle.tx_turns.proofs.NextStepLemmas.{learns_check, learns_checked}
use Rattle.tx_turns.proofs.learning.learn_to_check.Goals as goal

pub returns-then-i-len-clause-learns : goal.returns-then-i-len-clause-learns
returns-then-i-len-clause-learns c =
    learns_check c.args.actor.now c.check.new.self c.args.i c.args.found c.read_at-location.result c.check.result
    c.requires.place (omega (arith, c.if-i-len.true, c.len.ensures)) c.read_at-location.ensures c.check.ensures.actor c.check.ensures.answer

pub returns-else-i-len-clause-learns : goal.returns-else-i-len-clause-learns
returns-else-i-len-clause-learns c =
    learns_checked c.args.actor.now c.args.i c.args.found c.requires.place (omega (arith, c.if-i-len.false, c.len.ensures))
