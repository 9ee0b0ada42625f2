use Rattle.std.proofs.Common.{◌≡◌, drop}
use Rattle.std.specs.List.{list_all}
use Rattle.client_sessions.specs.Sessions.{is_booking_within}
use Rattle.client_sessions.proofs.split.are_bookings_within.Given as goal

abbrev pub invariant-loop-booking : goal.invariant-loop-booking
invariant-loop-booking l = list_all is_booking_within (drop l.booking-index l.bookings) ≡ list_all is_booking_within l.bookings
