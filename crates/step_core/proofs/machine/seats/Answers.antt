use Rattle.std.proofs.Common.{ap, sym, ◌∙◌, subst, arith, length, List}
use Rattle.step_core.specs.Blank.{AreBlank}
use Rattle.step_core.specs.declared.actor.Actor.{Actor}
use Rattle.step_core.proofs.Openings.{AreBlank-push, length_push}
use Rattle.step_core.proofs.machine.seats.Goals as goal

pub loop-i-preserved : goal.loop-i-preserved
loop-i-preserved c =
    let q = ap (λ (z : List Actor). length z) c.push_reserved.ensures.items ∙ length_push c.loop-i.actors.items c.new.result in (
      omega (arith, q, c.loop-i.invariant.0),
      subst AreBlank (sym c.push_reserved.ensures.items)
          (AreBlank-push c.loop-i.actors.items c.new.result c.loop-i.invariant.1 c.new.ensures),
      omega (arith, c.loop-i.invariant.2, c.push_reserved.ensures.capacity),
    )
