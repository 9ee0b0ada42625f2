-- How the serving of a queue continues after a step.
use Rattle.std.specs.Prelude.{ℕ, ◌≤◌, [], ◌∷◌, ◌++◌, Option, Some, None, unwrap_or, ⊤}
use Rattle.vac_model.specs.declared.item.Booking.{Booking}
use Rattle.vac_model.specs.declared.item.Customer.{Customer}
use Rattle.vac_model.specs.Holdings.{newcomer}
use Rattle.vac_model.specs.Actions.{without_wait}
use Rattle.client_sessions.specs.Sessions.{SessionProgram}

-- a step that booked so many tickets continues with the later ones; none: serving ends
abbrev pub serves_on : Option ℕ → (ℕ → SessionProgram) → SessionProgram → SessionProgram
serves_on None later end = end
serves_on (Some n) later end = later n

-- a step books a ticket at most
abbrev pub IsServed : Option ℕ → Type 0
IsServed None = ⊤
IsServed (Some n) = n ≤ 1

abbrev pub with_own : Option Booking → Customer → Customer
with_own None who = who
with_own (Some b) who = record who { bookings = who.bookings ++ b ∷ [] }

-- the customer of a ticket, without the wait, and with a booking where there is one
abbrev pub waiter : ℕ → Option Booking → Option Customer → Customer
waiter t b o = with_own b (without_wait t (unwrap_or o newcomer))
