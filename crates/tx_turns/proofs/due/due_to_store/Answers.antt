use Rattle.std.proofs.Common.{◌∙◌, arith}
use Rattle.tx_turns.proofs.NextStepLemmas.{at_place, store_is, stored_is}
use Rattle.tx_turns.proofs.due.due_to_store.Goals as goal

pub returns-then-i-len-clause-deed : goal.returns-then-i-len-clause-deed
returns-then-i-len-clause-deed c = (
  _,
  at_place c.args.actor.now _ c.requires.place ∙ store_is c.args.actor.now c.args.i c.write_at-location.result c.requires.fits.1.writes_rise
      (omega (arith, c.if-i-len.true, c.len.ensures)) c.write_at-location.ensures,
)

pub returns-else-i-len-clause-deed : goal.returns-else-i-len-clause-deed
returns-else-i-len-clause-deed c = at_place c.args.actor.now _ c.requires.place
    ∙ stored_is c.args.actor.now c.args.i (omega (arith, c.if-i-len.false, c.len.ensures))
