use Rattle.std.proofs.Common.{◌≡◌, drop, fold}
use Rattle.vac_model.specs.Tallies.{with_units}
use Rattle.vac_model.proofs.tally.add_units.Given as goal

abbrev pub invariant-loop-booking : goal.invariant-loop-booking
invariant-loop-booking l = fold (with_units l.fn.kind) l.tally (drop l.booking-index l.bookings)
    ≡ fold (with_units l.fn.kind) l.fn.tally l.bookings
