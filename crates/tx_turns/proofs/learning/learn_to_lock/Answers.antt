use Rattle.std.proofs.Common.{arith}
use Rattle.tx_turns.proofs.NextStepLemmas.{learns_lock, learns_stamp}
use Rattle.tx_turns.proofs.learning.learn_to_lock.Goals as goal

pub returns-then-i-len-clause-learns : goal.returns-then-i-len-clause-learns
returns-then-i-len-clause-learns c =
    learns_lock c.args.actor.now c.to_lock.new.self c.args.i c.args.found c.write_at-location.result c.to_lock.result
    c.requires.place (omega (
      arith,
      c.if-i-len.true,
      c.len.ensures,
    )) c.write_at-location.ensures c.to_lock.ensures.actor c.to_lock.ensures.answer

pub returns-else-i-len-clause-learns : goal.returns-else-i-len-clause-learns
returns-else-i-len-clause-learns c = learns_stamp c.args.actor.now c.stamp.new.self c.args.i c.args.found c.stamp.result c.requires.place
    (omega (arith, c.if-i-len.false, c.len.ensures)) c.stamp.ensures.actor c.stamp.ensures.answer
