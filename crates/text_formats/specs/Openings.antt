-- The tables to begin with.
use Rattle.std.specs.Prelude.{◌≡◌, ℕ, ◌+◌, ◌*◌, List, [], ◌∷◌, All}
use Rattle.std.specs.Ordering.{nat_cmp}
use Rattle.std.specs.FinMap.{FinMap, empty}
use Rattle.seq_model.specs.Entries.{inserts}
use Rattle.rand.specs.Draw.{Gives}
use Rattle.rand_core.specs.Stream.{Stream}
use Rattle.vac_model.specs.declared.item.Item.{Item}
use Rattle.vac_model.specs.Balanced.{IsItemSound}
use Rattle.vac_model.specs.Holdings.{Holdings, nothing}
use Rattle.text_formats.specs.declared.options.Options.{Options}
use Rattle.text_formats.specs.Draws.{Draw, below, stream_for, times}

-- a price: 50, 60, 70, 80 or 90
abbrev pub price_drawn : Draw ℕ
price_drawn s = let d : ℕ × Stream = below 5 s in (50 + 10 * d.0, d.1)

-- an item of 100 to 500 units, all of them free, and its price
abbrev pub item_drawn : Draw Item
item_drawn s =
    let units : ℕ × Stream = below 5 s in
    let price : ℕ × Stream = price_drawn units.1 in
    (record { total = 100 * (1 + units.0); used = 0; free = 100 * (1 + units.0); price = price.0 }, price.1)

-- things with their numbers, from this one on
abbrev pub numbered : {A : Type 0} → ℕ → List A → List (ℕ × A)
numbered n [] = []
numbered n (x ∷ xs) = (n, x) ∷ numbered (n + 1) xs

-- the items of a kind, by id, from 1
abbrev pub by_id : List Item → FinMap nat_cmp Item
by_id items = inserts empty (numbered 1 items)

-- so many items of each kind are drawn one after another, cars first, then flights, then rooms
abbrev pub opening_from : ℕ → Stream → Holdings
opening_from n s =
    let cars : List Item × Stream = times n item_drawn s in
    let flights : List Item × Stream = times n item_drawn cars.1 in
    let rooms : List Item × Stream = times n item_drawn flights.1 in
    record nothing { items = record { car = by_id cars.0; flight = by_id flights.0; room = by_id rooms.0 } }

abbrev pub opening_of : ℕ → Options → Holdings
opening_of seed options = opening_from options.relations (stream_for seed 0)

-- ---- what is drawn of a kind

-- all units are free, and the amounts are within their limits
pub record IsFresh (i : Item) : Type 0 where
  pub sound : IsItemSound i
  pub unused : i.used ≡ 0

-- m holds so many items drawn from s, by id, each of them fresh, and t is left
pub record AreItems (n : ℕ) (s : Stream) (m : FinMap nat_cmp Item) (t : Stream) : Type 0 where
  pub items : List Item
  pub drawn : Gives (times n item_drawn) s items t
  pub are : m ≡ by_id items
  pub fresh : All IsFresh items
