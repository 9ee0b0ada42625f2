use Rattle.std.proofs.Common.{ap, ◌∙◌, sym, subst, arith, length, length-append, ◌∷◌, []}
use Rattle.vacation_core.specs.PlayOpenings.{AreNew}
use Rattle.vacation_core.proofs.PlayOpeningLemmas.{new_more}
use Rattle.vacation_core.proofs.world.clients.Goals as goal

pub loop-preserved : goal.loop-preserved
loop-preserved c =
    let grown = ap length c.in_ok-push.ensures.items ∙ length-append c.loop.clients.items (c.new.result ∷ []) in (
      omega (arith, grown, c.loop.invariant.0),
      subst AreNew (sym c.in_ok-push.ensures.items) (new_more c.loop.clients.items c.new.result c.new.ensures c.loop.invariant.1),
    )
