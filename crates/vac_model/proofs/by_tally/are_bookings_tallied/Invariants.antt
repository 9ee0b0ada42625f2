use Rattle.std.proofs.Common.{◌≡◌, drop}
use Rattle.std.specs.List.{list_all}
use Rattle.vac_model.specs.Tallies.{is_booking_tallied}
use Rattle.vac_model.proofs.by_tally.are_bookings_tallied.Given as goal

abbrev pub invariant-loop-booking : goal.invariant-loop-booking
invariant-loop-booking l = list_all (is_booking_tallied l.fn.tables l.fn.had) (drop l.booking-index l.bookings)
    ≡ list_all (is_booking_tallied l.fn.tables l.fn.had) l.bookings
