use Rattle.std.proofs.Common.{subst, sym, arith}
use Rattle.base_pq.specs.Room.{HasRoom}
use Rattle.base_pq.proofs.striped.Striped.reserve.Goals as goal

pub returns-then-taken-changes-clause-served : goal.returns-then-taken-changes-clause-served
returns-then-taken-changes-clause-served g c = λ enough. (
    let all = c.take_each-taken.ensures.served
    (subst (λ s. HasRoom s.stripes s.room c.args.changes.now) (sym c.self.view_is) enough) in
    absurd (omega (arith, all, c.if-taken-changes.true)))
