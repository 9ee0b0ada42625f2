use Rattle.std.proofs.Common.{◌∙◌, arith}
use Rattle.tx_turns.proofs.NextStepLemmas.{at_place, lock_is, stamp_is}
use Rattle.tx_turns.proofs.due.due_to_lock.Goals as goal

pub returns-then-i-len-clause-deed : goal.returns-then-i-len-clause-deed
returns-then-i-len-clause-deed c = (
  _,
  at_place c.args.actor.now _ c.requires.place
      ∙ lock_is c.args.actor.now c.args.i c.write_at.result (omega (arith, c.if-i-len.true, c.len.ensures)) c.write_at.ensures,
)

pub returns-else-i-len-clause-deed : goal.returns-else-i-len-clause-deed
returns-else-i-len-clause-deed c = (
  _,
  at_place c.args.actor.now _ c.requires.place ∙ stamp_is c.args.actor.now c.args.i (omega (arith, c.if-i-len.false, c.len.ensures)),
)
