use Rattle.std.proofs.Common.{◌≡◌, ◌++◌, take}
use Rattle.std.specs.List.{flat_map}
use Rattle.std.specs.String.{string_bytes}
use Rattle.text_formats.specs.SessionPrints.{booking_text}
use Rattle.text_formats.proofs.session_print.print_bookings.Given as goal

abbrev pub invariant-loop-booking : goal.invariant-loop-booking
invariant-loop-booking l = string_bytes l.text ≡ string_bytes l.fn.text ++ flat_map booking_text (take l.booking-index l.bookings)
