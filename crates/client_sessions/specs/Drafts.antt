-- A customer with what a reservation decided so far.
use Rattle.std.specs.Prelude.{ℕ, ◌+◌, Option, Some, None, unwrap_or, Bool, false, ◌||◌, ◌==◌, if◌then◌else◌, ⊤}
use Rattle.std.specs.Option.{option_copied}
use Rattle.vac_model.specs.declared.item.Item.{Item}
use Rattle.vac_model.specs.declared.item.Kind.{Kind}
use Rattle.vac_model.specs.declared.item.Kind.TheVariants.{Car, Flight, Room}
use Rattle.vac_model.specs.declared.item.Customer.{Customer}
use Rattle.vac_model.specs.declared.action.KindReply.{KindReply}
use Rattle.vac_model.specs.declared.action.KindReply.TheVariants.{Booked, Waits}
use Rattle.vac_model.specs.declared.each.Each.{Each}
use Rattle.vac_model.specs.Holdings.{newcomer}
use Rattle.vac_model.specs.Balanced.{IsItemSound}
use Rattle.client_sessions.specs.declared.reserve.Draft.{Draft}
use Rattle.client_sessions.specs.Sessions.{is_change}
use Rattle.client_sessions.specs.Walks.{with_part}

-- a candidate's item is sound
abbrev pub IsSound : Option (ℕ × Item) → Type 0
IsSound None = ⊤
IsSound (Some x) = IsItemSound x.1

abbrev pub AreSound : Each (Option (ℕ × Item)) → Type 0
AreSound best = IsSound best.car × IsSound best.flight × IsSound best.room

-- whether a part adds a booking of the item or a wait for it
abbrev pub adds : ℕ → KindReply → Bool
adds id (Booked booked n price) = booked == id
adds id (Waits awaited t) = awaited == id
adds id _ = false

-- what was decided for a kind
abbrev pub part_for : Kind → Draft → KindReply
part_for Car d = d.car
part_for Flight d = d.flight
part_for Room d = d.room

-- the customer as it is to be put
abbrev pub drafted : Draft → Customer
drafted d = with_part d.units Room d.room
    (with_part d.units Flight d.flight (with_part d.units Car d.car (unwrap_or (option_copied d.found) newcomer)))

abbrev pub is_changed : Draft → Bool
is_changed d = is_change d.car || (is_change d.flight || is_change d.room)

-- how many places a part takes
abbrev pub place_of : KindReply → ℕ
place_of p = if is_change p then 1 else 0

abbrev pub added : Draft → ℕ
added d = place_of d.car + place_of d.flight + place_of d.room
