use Rattle.std.proofs.Common.{rules}
use Rattle.text_formats.proofs.ActionLemmas.{as_reserve}
use Rattle.text_formats.proofs.session_line.read_reserve.Goals as goal

pub returns-in_default-read_units-clause-only : goal.returns-in_default-read_units-clause-only
returns-in_default-read_units-clause-only c action is =
    let f = as_reserve c.args.customer.now _ action is in
    absurd (c.in_default-read_units.ensures.only f.1 f.2 f.5)

pub returns-in_default-2-clause-only : goal.returns-in_default-2-clause-only
returns-in_default-2-clause-only c action is =
    let f = as_reserve c.args.customer.now _ action is in
    let asks = c.in-Some-read_units.ensures.only f.1 f.2 f.5 in
    search (rules, c.in_ok-asks.ensures.only f.2 asks.1)

pub returns-clause-only : goal.returns-clause-only
returns-clause-only c action is =
    let f = as_reserve c.args.customer.now _ action is in
    let customer = c.in-Some.ensures.only f.0 f.4 in
    let asks = c.in-Some-read_units.ensures.only f.1 f.2 f.5 in
    let read = c.in_ok-asks.ensures.only f.2 asks.1 in
    cc (f.3, customer, asks.0, read, c.in-Some-2.is)
