use Rattle.std.proofs.Common.{◌≡◌, drop, fold}
use Rattle.vac_model.specs.Tallies.{with_booking}
use Rattle.vac_model.proofs.tally.add_bookings.Given as goal

abbrev pub invariant-loop-booking : goal.invariant-loop-booking
invariant-loop-booking l = fold (with_booking l.fn.kind) l.tally (drop l.booking-index l.bookings)
    ≡ fold (with_booking l.fn.kind) l.fn.tally l.bookings
