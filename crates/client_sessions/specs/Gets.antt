-- What a reservation asks first: an item for each of its asks, in their order.
use Rattle.std.specs.Prelude.{Bool, true, false, Option, Some, None}
use Rattle.seq_model.specs.declared.call.Call.{Call}
use Rattle.seq_model.specs.declared.call.Op.TheVariants.{Get}
use Rattle.seq_model.specs.declared.call.Reply.{Reply}
use Rattle.seq_model.specs.declared.call.Reply.TheVariants.{Nothing, Value}
use Rattle.vac_model.specs.declared.action.Ask.{Ask}
use Rattle.vac_model.specs.declared.item.Item.{Item}
use Rattle.vac_model.specs.Tests.{is_item_sound}
use Rattle.client_sessions.specs.declared.entry.Entry.{Entry}
use Rattle.client_sessions.specs.declared.entry.Entry.TheVariants.{Item as Stock}
use Rattle.client_sessions.specs.Sessions.{map_of, on}

abbrev pub get_due : Ask → Call Entry
get_due due = on (map_of due.kind) (Get due.id)

-- a program continues with the item, or with none
abbrev pub tells_item : Reply Entry → Bool
tells_item Nothing = true
tells_item (Value (Stock i)) = is_item_sound i
tells_item _ = false

-- the item that is named
abbrev pub item_told : Reply Entry → Option Item
item_told (Value (Stock i)) = Some i
item_told _ = None
