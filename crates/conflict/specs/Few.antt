-- What contracts see of few keys: what they see of a table.
use Rattle.std.specs.Prelude.{ℕ, ◌-◌, Bool, true, false, List, length, min}
use Rattle.std.specs.FinMap as map
use Rattle.conflict.specs.RoomMap.{Room}

-- of the table where all keys are there, and else of the list, which has room up to sixteen keys
abbrev pub room_of : {V : Type 0} → Bool → List (ℕ × V) → ℕ → Room V → Room V
room_of true few capacity many = many
room_of false few capacity many = record { contents = map.from_entries few; room = min capacity 16 - length few }
