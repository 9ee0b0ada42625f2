use Rattle.std.proofs.Common.{◌++◌, ◌∙◌, ap, drop}
use Rattle.client_sessions.proofs.GivenBackLemmas.{joined_at}
use Rattle.client_sessions.proofs.split.SplitCustomer.bookings_from.Goals as goal

pub returns : goal.returns
returns c =
    let first = c.split_at.ensures.back in
    let then = c.split_at-2.ensures.back in
    (λ j. first j ++ then j)
    ∙ (joined_at c.bookings.result.0.now c.bookings.result.1.now c.args.from _ _ c.min-passed.ensures c.min.ensures
    ∙ ap (drop c.args.from) c.bookings.ensures)
