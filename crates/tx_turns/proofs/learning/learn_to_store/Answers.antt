use Rattle.std.proofs.Common.{arith}
use Rattle.tx_turns.proofs.NextStepLemmas.{learns_store, learns_stored}
use Rattle.tx_turns.proofs.learning.learn_to_store.Goals as goal

pub returns-then-i-len-clause-learns : goal.returns-then-i-len-clause-learns
returns-then-i-len-clause-learns c = learns_store c.args.actor.now c.store.new.self c.args.i c.args.found c.store.result c.requires.place
    (omega (arith, c.if-i-len.true, c.len.ensures)) c.store.ensures.actor c.store.ensures.answer

pub returns-else-i-len-clause-learns : goal.returns-else-i-len-clause-learns
returns-else-i-len-clause-learns c =
    learns_stored c.args.actor.now c.args.i c.args.found c.requires.place (omega (arith, c.if-i-len.false, c.len.ensures))
