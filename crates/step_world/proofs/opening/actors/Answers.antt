use Rattle.std.proofs.Common.{ap, ◌∙◌, sym, subst, arith, length}
use Rattle.step_world.specs.Openings.{AreIdle, IsIdle}
use Rattle.step_world.proofs.OpeningLemmas.{AreIdle-push, length_push}
use Rattle.step_world.proofs.opening.actors.Goals as goal

pub loop-preserved : goal.loop-preserved
loop-preserved g c =
    let grown = ap length c.in_ok-push.ensures.items ∙ length_push c.loop.actors.items c.new.result in
    let own : IsIdle c.new.result = record { seat = c.new.ensures.seat; stage = c.new.ensures.stage; words = c.new.ensures.words } in (
      omega (arith, grown, c.loop.invariant.0),
      subst AreIdle (sym c.in_ok-push.ensures.items) (AreIdle-push c.loop.actors.items c.new.result own c.loop.invariant.1),
    )
