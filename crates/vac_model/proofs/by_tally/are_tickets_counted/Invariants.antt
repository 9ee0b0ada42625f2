use Rattle.std.proofs.Common.{◌≡◌}
use Rattle.std.specs.List.{list_all}
use Rattle.std.specs.FinMap as map
use Rattle.vac_model.specs.Tallies.{is_ticket_tallied}
use Rattle.vac_model.proofs.by_tally.are_tickets_counted.Given as goal

abbrev pub invariant-loop-number : goal.invariant-loop-number
invariant-loop-number l = list_all (is_ticket_tallied l.fn.awaited l.fn.queued) l.number-iterator
    ≡ list_all (is_ticket_tallied l.fn.awaited l.fn.queued) (map.entries l.fn.tables.tickets)
