use Rattle.std.proofs.Common.{length}
use Rattle.vacation_core.proofs.OpeningLemmas.{opened}
use Rattle.vacation_core.proofs.order.run_in_order_with.Goals as goal

pub run_all-requires-clause-allowed : goal.run_all-requires-clause-allowed
run_all-requires-clause-allowed g c = c.are_allowed.ensures.0 c.if-not-are_allowed.false

pub run_all-requires-clause-opened : goal.run_all-requires-clause-opened
run_all-requires-clause-opened g c =
    let count = c.is_stripe_count.ensures.0 c.if-not-is_stripe_count.false in
    (c.args.tables, opened c.args.stripes c.args.tables c.in_ok-world.world.parts count c.requires c.in_ok-world.ensures)

pub returns-clause-ordered : goal.returns-clause-ordered
returns-clause-ordered g c =
    let count = c.is_stripe_count.ensures.0 c.if-not-is_stripe_count.false in
    let first = opened c.args.stripes c.args.tables c.in_ok-world.world.parts count c.requires c.in_ok-world.ensures in
    let allowed = c.are_allowed.ensures.0 c.if-not-are_allowed.false in
    let r = c.in_ok-run_all.ensures c.args.tables first.0 allowed first.1 in
    c.in_ok-ordered.ensures c.args.tables (length c.args.actions.now) r.0 c.args.actions.now r.1
