-- The sessions of a worker.
use Rattle.std.specs.Prelude.{ℕ, zero, suc, ◌%◌, ◌==◌, nat_lt, if◌then◌else◌, List}
use Rattle.rand_core.specs.Stream.{Stream}
use Rattle.vac_model.specs.declared.item.Kind.{Kind}
use Rattle.vac_model.specs.declared.item.Kind.TheVariants.{Car, Flight, Room}
use Rattle.vac_model.specs.declared.action.Ask.{Ask}
use Rattle.vac_model.specs.declared.action.Change.{Change}
use Rattle.vac_model.specs.declared.action.Change.TheVariants.{Add, TakeCar, TakeRoom, DropFlight}
use Rattle.vac_model.specs.declared.action.Action.{Action}
use Rattle.vac_model.specs.declared.action.Action.TheVariants.{Reserve, Delete, Update}
use Rattle.vac_model.specs.Holdings.{kind_at}
use Rattle.text_formats.specs.declared.options.Options.{Options}
use Rattle.text_formats.specs.Draws.{Draw, below, stream_for, times, up_to}
use Rattle.text_formats.specs.Openings.{price_drawn}
use Rattle.text_formats.specs.Options.{count_of, greatest_id}

-- a car, a flight or a room
abbrev pub kind_drawn : Draw Kind
kind_drawn s = let d : ℕ × Stream = below 3 s in (kind_at d.0, d.1)

-- ---- a reservation: the customer, and then each item that is asked for

abbrev pub ask_drawn : ℕ → Draw Ask
ask_drawn greatest s =
    let kind : Kind × Stream = kind_drawn s in
    let id : ℕ × Stream = up_to greatest kind.1 in
    (record { kind = kind.0; id = id.0 }, id.1)

-- of one unit
abbrev pub reserve_drawn : ℕ → ℕ → Draw Action
reserve_drawn queries greatest s =
    let customer : ℕ × Stream = up_to greatest s in
    let asks : List Ask × Stream = times queries (ask_drawn greatest) customer.1 in
    (Reserve customer.0 1 asks.0, asks.1)

-- ---- a deletion of a customer

abbrev pub delete_drawn : ℕ → Draw Action
delete_drawn greatest s = let customer : ℕ × Stream = up_to greatest s in (Delete customer.0, customer.1)

-- ---- an update: of each item that is changed its kind and id, and whether units come or go

-- a hundred units are taken, or the flight is dropped
abbrev pub less : Kind → ℕ → Change
less Car id = TakeCar id 100
less Flight id = DropFlight id
less Room id = TakeRoom id 100

-- a hundred units more, at a new price
abbrev pub more_drawn : Kind → ℕ → Draw Change
more_drawn kind id s = let price : ℕ × Stream = price_drawn s in (Add kind id 100 price.0, price.1)

abbrev pub changed_by : Kind → ℕ → ℕ → Draw Change
changed_by kind id zero s = (less kind id, s)
changed_by kind id (suc _) s = more_drawn kind id s

abbrev pub change_drawn : ℕ → Draw Change
change_drawn greatest s =
    let kind : Kind × Stream = kind_drawn s in
    let id : ℕ × Stream = up_to greatest kind.1 in
    let coin : ℕ × Stream = below 2 id.1 in
    changed_by kind.0 id.0 coin.0 coin.1

abbrev pub update_drawn : ℕ → ℕ → Draw Action
update_drawn queries greatest s =
    let changes : List Change × Stream = times queries (change_drawn greatest) s in (Update changes.0, changes.1)

-- ---- a session: of a hundred, so many are reservations, and of the others every second is a deletion, every other an update

abbrev pub session_by : Options → ℕ → Draw Action
session_by o r s =
    if nat_lt r o.percent_user then reserve_drawn o.queries (greatest_id o) s
    else if r % 2 == 1 then delete_drawn (greatest_id o) s
    else update_drawn o.queries (greatest_id o) s

abbrev pub session_drawn : Options → Draw Action
session_drawn o s = let r : ℕ × Stream = below 100 s in session_by o r.0 r.1

-- the sessions of a worker, one after another
abbrev pub sessions_of : ℕ → ℕ → Options → List Action
sessions_of seed worker o = (times (count_of o worker) (session_drawn o) (stream_for seed worker)).0
