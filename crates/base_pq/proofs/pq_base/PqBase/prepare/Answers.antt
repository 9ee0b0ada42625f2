use Rattle.std.proofs.Common.{subst, sym}
use Rattle.base_pq.specs.Room.{HasRoom}
use Rattle.base_pq.proofs.pq_base.PqBase.prepare.Goals as goal

pub returns-clause-served : goal.returns-clause-served
returns-clause-served g c = λ enough. c.reserve.ensures.served
    (subst (λ n. HasRoom n c.self.inside.elements.room c.args.changes.now) (sym c.self.invariant.1)
    (subst (λ s. HasRoom s.stripes s.room c.args.changes.now) (sym c.self.view_is) enough))
