use Rattle.std.proofs.Common.{◌∙◌, arith}
use Rattle.tx_turns.proofs.NextStepLemmas.{at_place, first_is}
use Rattle.tx_turns.proofs.due.due_first.Goals as goal

pub returns-clause-deed : goal.returns-clause-deed
returns-clause-deed c = (
  _,
  at_place c.args.actor.now _ c.requires.place
      ∙ first_is c.args.actor.now c.write_at-location.result (omega (arith, c.if-len-eq0.false, c.len.ensures)) c.write_at-location.ensures,
)
