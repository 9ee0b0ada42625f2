use Rattle.std.proofs.Common.{◌≡◌, drop, fold}
use Rattle.vac_model.specs.Tallies.{with_ticket}
use Rattle.vac_model.proofs.tally.add_tickets.Given as goal

abbrev pub invariant-loop-ticket : goal.invariant-loop-ticket
invariant-loop-ticket l = fold with_ticket l.tally (drop l.ticket-index l.tickets) ≡ fold with_ticket l.fn.tally l.tickets
