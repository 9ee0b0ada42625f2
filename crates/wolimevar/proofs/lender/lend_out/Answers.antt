use Rattle.std.proofs.Common.{sym, subst}
use Rattle.wolimevar.specs.Splits.{IsUnused}
use Rattle.wolimevar.proofs.SplitLemmas.{left_back}
use Rattle.wolimevar.proofs.lender.lend_out.Goals as goal

pub join_unused-requires-clause-unused : goal.join_unused-requires-clause-unused
join_unused-requires-clause-unused g c =
    subst (IsUnused c.args.table.now) (sym c.into_inner.ensures) c.in_ok-own.ensures.unused

pub returns-in-Err-clause-none : goal.returns-in-Err-clause-none
returns-in-Err-clause-none g c =
    left_back 1 c.args.seat.now.seat c.split_off.new.seat.seat c.join_unused.new.seat.seat c.in_ok-own.ensures.left
    c.join_unused.ensures.joined
