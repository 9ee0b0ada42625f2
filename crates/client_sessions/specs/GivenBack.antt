-- What a deletion asks first: the item of each booking, and then its put with the units free again.
use Rattle.std.specs.Prelude.{ℕ, Bool, false, ◌&&◌, nat_le}
use Rattle.seq_model.specs.declared.call.Reply.{Reply}
use Rattle.seq_model.specs.declared.call.Reply.TheVariants.{Value}
use Rattle.seq_model.specs.Programs.{Answers}
use Rattle.vac_model.specs.declared.action.ActionReply.TheVariants.{Deleted}
use Rattle.vac_model.specs.declared.item.Booking.{Booking}
use Rattle.vac_model.specs.declared.item.Customer.{Customer}
use Rattle.vac_model.specs.Actions.{bill}
use Rattle.vac_model.specs.Tests.{is_item_sound}
use Rattle.client_sessions.specs.declared.entry.Entry.{Entry}
use Rattle.client_sessions.specs.declared.entry.Entry.TheVariants.{Item as Stock}
use Rattle.client_sessions.specs.Sessions.{SessionProgram, forget_all, remove_customer, serve_all}

-- the item of a booking is named, and so many of its units are used
abbrev pub is_given_back : Booking → Reply Entry → Bool
is_given_back b (Value (Stock i)) = is_item_sound i && nat_le b.units i.used
is_given_back b _ = false

-- what a deletion continues with, once the units of all bookings are free again
abbrev pub once_given_back : ℕ → Customer → SessionProgram
once_given_back c who = forget_all who.waits (remove_customer c
    (serve_all who.bookings (λ served. Answers (Deleted (bill who.bookings) served))))
