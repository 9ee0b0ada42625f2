use Rattle.std.proofs.Common.{sym, subst}
use Rattle.wolimevar.specs.Splits.{IsUnused}
use Rattle.wolimevar.proofs.SplitLemmas.{left_back, left_one, split_unused}
use Rattle.wolimevar.proofs.seats.split_off.Goals as goal

pub returns-in-Ok-clause-unused : goal.returns-in-Ok-clause-unused
returns-in-Ok-clause-unused g c =
    subst (IsUnused c.args.table.now) (sym c.in-Ok.ensures.boxed)
    (split_unused c.args.table.now c.args.seat.now.seat c.split-own.result c.split-own.ensures.ready.1 c.split-own.ensures.right.0
    c.split-own.ensures.right.1)

pub returns-in-Ok-clause-left : goal.returns-in-Ok-clause-left
returns-in-Ok-clause-left g c =
    left_one c.args.seat.now.seat c.split-own.new.self.seat c.requires.fewer c.split-own.ensures.left.0 c.split-own.ensures.left.1
    c.split-own.ensures.asks.0

pub join_unused-requires-clause-unused : goal.join_unused-requires-clause-unused
join_unused-requires-clause-unused g c =
    subst (IsUnused c.args.table.now) (sym c.in-Err.ensures.back)
    (split_unused c.args.table.now c.args.seat.now.seat c.split-own.result c.split-own.ensures.ready.1 c.split-own.ensures.right.0
    c.split-own.ensures.right.1)

pub returns-in-Err-clause-none : goal.returns-in-Err-clause-none
returns-in-Err-clause-none g c =
    left_back 1 c.args.seat.now.seat c.split-own.new.self.seat c.join_unused.new.seat.seat
    (left_one c.args.seat.now.seat c.split-own.new.self.seat c.requires.fewer c.split-own.ensures.left.0 c.split-own.ensures.left.1
    c.split-own.ensures.asks.0)
    c.join_unused.ensures.joined
