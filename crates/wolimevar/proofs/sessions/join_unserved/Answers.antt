use Rattle.std.proofs.Common.{rules, ◌≡◌, Some, sym, subst}
use Rattle.wolimevar.specs.Splits.{IsUnused}
use Rattle.wolimevar.proofs.SessionLemmas.{waiting_seat}
use Rattle.wolimevar.proofs.sessions.join_unserved.Goals as goal

pub join_unused-requires-clause-unused : goal.join_unused-requires-clause-unused
join_unused-requires-clause-unused g c =
    let is : c.args.task.seat ≡ Some c.in-Some.own = search rules in
    subst (IsUnused c.args.table.now) (sym c.into_inner.ensures)
    (waiting_seat c.args.table.now c.args.task c.in-Some.own c.requires.waits is)
