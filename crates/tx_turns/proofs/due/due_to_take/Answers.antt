use Rattle.std.proofs.Common.{refl}
use Rattle.step_core.proofs.CellMoves.{place_fits}
use Rattle.tx_turns.proofs.NextStepLemmas.{at_place}
use Rattle.tx_turns.proofs.due.due_to_take.Goals as goal

pub returns-clause-deed : goal.returns-clause-deed
returns-clause-deed c = (
  c.args.version,
  _,
  _,
  at_place c.args.actor.now _ c.requires.place,
  refl,
  (place_fits c.args.actor.now _ _ c.requires.place c.requires.fits.1).1,
)
