use Rattle.std.proofs.Common.{refl}
use Rattle.step_world.proofs.PrepareLemmas.{are_same, none_due}
use Rattle.step_world.proofs.homes.prepare.Goals as goal

pub returns-in_default : goal.returns-in_default
returns-in_default g c = record {
  room = none_due c.args.table.now c.args.actor.now.copies.items c.args.actor.now.stage c.in_default.not-Ready;
  alike = are_same c.args.table.now.bases.items;
  rest = (refl, refl);
}
