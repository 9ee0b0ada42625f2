-- Which customers a session continues with.
use Rattle.std.specs.Prelude.{Bool, ◌&&◌, nat_le}
use Rattle.std.specs.List.{list_all}
use Rattle.vac_model.specs.declared.item.Booking.{Booking}
use Rattle.vac_model.specs.declared.item.Customer.{Customer}
use Rattle.vac_model.specs.declared.limits.TheConstants.{AMOUNT_LIMIT, PLACE_LIMIT}
use Rattle.vac_model.specs.Actions.{places}
use Rattle.vac_model.specs.Tests.{are_units}

-- as many bookings and waits, units and prices as there may be, so that no bill is too great
abbrev pub is_booking_within : Booking → Bool
is_booking_within b = are_units b.units && nat_le b.price AMOUNT_LIMIT

abbrev pub is_customer_within : Customer → Bool
is_customer_within who = nat_le (places who) PLACE_LIMIT && list_all is_booking_within who.bookings
