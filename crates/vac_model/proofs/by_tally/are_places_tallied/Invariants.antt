use Rattle.std.proofs.Common.{◌≡◌, drop}
use Rattle.std.specs.List.{list_all}
use Rattle.vac_model.specs.Tallies.{is_place_tallied}
use Rattle.vac_model.proofs.by_tally.are_places_tallied.Given as goal

abbrev pub invariant-loop-ticket : goal.invariant-loop-ticket
invariant-loop-ticket l = list_all (is_place_tallied l.fn.queued l.fn.next) (drop l.ticket-index l.tickets)
    ≡ list_all (is_place_tallied l.fn.queued l.fn.next) l.tickets
