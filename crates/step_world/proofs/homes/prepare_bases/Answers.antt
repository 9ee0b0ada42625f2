use Rattle.std.proofs.Common.{◌∙◌, arith, refl}
use Rattle.step_world.proofs.PrepareLemmas.{are_same, are_trans, at_any, rooms_grow}
use Rattle.step_world.proofs.homes.prepare_bases.Goals as goal

pub loop-i-init : goal.loop-i-init
loop-i-init g c = (are_same c.args.table.now.bases.items, refl, refl, λ j d low. (let z : ⊥ = omega (arith, low) in absurd z))

pub returns-in_err-prepare_base-clause-alike : goal.returns-in_err-prepare_base-clause-alike
returns-in_err-prepare_base-clause-alike g c =
    are_trans c.args.table.now.bases.items c.loop-i.table.bases.items c.prepare_base.new.table.bases.items c.loop-i.invariant.0
    c.prepare_base.ensures.alike

pub loop-i-preserved : goal.loop-i-preserved
loop-i-preserved g c = (
  are_trans c.args.table.now.bases.items c.loop-i.table.bases.items c.prepare_base.new.table.bases.items c.loop-i.invariant.0
      c.prepare_base.ensures.alike,
  c.prepare_base.ensures.rest.0 ∙ c.loop-i.invariant.1,
  c.prepare_base.ensures.rest.1 ∙ c.loop-i.invariant.2,
  rooms_grow c.loop-i.table c.prepare_base.new.table c.args.actor.now.copies.items c.args.homes.now.items c.loop-i.i c.index.result.now
      (at_any c.args.homes.now.items c.loop-i.i c.index.result.now (omega (arith, c.loop-i-test.true, c.len-i-end.ensures)) c.index.ensures)
      c.prepare_base.ensures.alike c.loop-i.invariant.3 c.in_ok-prepare_base.ensures.room,
)
