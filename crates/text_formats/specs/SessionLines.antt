-- The lines of a session file, as their tokens.
use Rattle.std.specs.Prelude.{◌≡◌, ◌⊎◌, ℕ, ◌<◌, ◌≤◌, ◌^◌, List, [], ◌∷◌, ◌++◌, codes, ⊤}
use Rattle.std.specs.Fmt.{decimal}
use Rattle.vac_model.specs.declared.action.Action.{Action}
use Rattle.vac_model.specs.declared.action.Action.TheVariants.{Reserve, Delete, Update, QueryItem, QueryBill}
use Rattle.vac_model.specs.declared.action.Ask.{Ask}
use Rattle.vac_model.specs.declared.action.Change.{Change}
use Rattle.vac_model.specs.declared.action.Change.TheVariants.{Add, TakeCar, TakeRoom, DropFlight}
use Rattle.vac_model.specs.declared.item.Kind.{Kind}
use Rattle.vac_model.specs.declared.item.Kind.TheVariants.{Car, Flight, Room}
use Rattle.vac_model.specs.declared.limits.TheConstants.{AMOUNT_LIMIT}
use Rattle.vac_model.specs.Actions.{IsAllowed}
use Rattle.text_formats.specs.declared.session_line.SessionLine.{SessionLine}
use Rattle.text_formats.specs.declared.session_line.SessionLine.TheVariants.{Have, Does}
use Rattle.text_formats.specs.Tokens.{IsNumber}

abbrev pub kind_token : Kind → List ℕ
kind_token Car = codes "car"
kind_token Flight = codes "flight"
kind_token Room = codes "room"

-- ---- the asks of a reservation: a kind and an id each
abbrev pub AreAsks : List (List ℕ) → List Ask → Type 0
AreAsks [] [] = ⊤
AreAsks (kind ∷ id ∷ tokens) (ask ∷ asks) = (kind ≡ kind_token ask.kind) × IsNumber id ask.id × AreAsks tokens asks
AreAsks tokens asks = ⊥

-- what stands after the customer of a reservation: units, which may be left out for 1, and asks
abbrev pub HasUnits : List (List ℕ) → ℕ → List Ask → Type 0
HasUnits (token ∷ tokens) units asks = IsNumber token units × AreAsks tokens asks
HasUnits [] units asks = ⊥

abbrev pub IsReserve : List (List ℕ) → ℕ → List Ask → Type 0
IsReserve tokens units asks = HasUnits tokens units asks ⊎ ((units ≡ 1) × AreAsks tokens asks)

-- ---- the changes of an update
abbrev pub change_tokens : Change → List (List ℕ)
change_tokens (Add kind id units price) = codes "add" ∷ kind_token kind ∷ decimal id ∷ decimal units ∷ decimal price ∷ []
change_tokens (TakeCar id units) = codes "take" ∷ codes "car" ∷ decimal id ∷ decimal units ∷ []
change_tokens (TakeRoom id units) = codes "take" ∷ codes "room" ∷ decimal id ∷ decimal units ∷ []
change_tokens (DropFlight id) = codes "drop" ∷ decimal id ∷ []

-- its numbers are within 64 bits
abbrev pub ChangeFits : Change → Type 0
ChangeFits (Add kind id units price) = (id < 2 ^ 64) × (units < 2 ^ 64) × (price < 2 ^ 64)
ChangeFits (TakeCar id units) = (id < 2 ^ 64) × (units < 2 ^ 64)
ChangeFits (TakeRoom id units) = (id < 2 ^ 64) × (units < 2 ^ 64)
ChangeFits (DropFlight id) = id < 2 ^ 64

abbrev pub IsChange : List (List ℕ) → Change → Type 0
IsChange tokens change = ChangeFits change × (tokens ≡ change_tokens change)

-- the tokens begin with a change, and these stand after it
abbrev pub Begins : List (List ℕ) → Change → List (List ℕ) → Type 0
Begins tokens change behind = ChangeFits change × (tokens ≡ change_tokens change ++ behind)

-- `and` stands before each change but the first
abbrev pub AreMore : List (List ℕ) → List Change → Type 0
AreMore [] [] = ⊤
AreMore (word ∷ tokens) (change ∷ changes) =
    (word ≡ codes "and") × ((behind : List (List ℕ)) × Begins tokens change behind × AreMore behind changes)
AreMore tokens changes = ⊥

-- there is a first change
abbrev pub AreChanges : List (List ℕ) → List Change → Type 0
AreChanges tokens [] = ⊥
AreChanges tokens (change ∷ changes) = (behind : List (List ℕ)) × Begins tokens change behind × AreMore behind changes

-- ---- whole lines
abbrev pub IsReserveLine : List (List ℕ) → ℕ → ℕ → List Ask → Type 0
IsReserveLine (word ∷ customer ∷ tokens) c units asks = (word ≡ codes "reserve") × IsNumber customer c × IsReserve tokens units asks
IsReserveLine tokens c units asks = ⊥

abbrev pub IsUpdateLine : List (List ℕ) → List Change → Type 0
IsUpdateLine (word ∷ tokens) changes = (word ≡ codes "update") × AreChanges tokens changes
IsUpdateLine tokens changes = ⊥

abbrev pub IsAction : List (List ℕ) → Action → Type 0
IsAction tokens (Reserve c units asks) = IsReserveLine tokens c units asks
IsAction tokens (Delete c) = (tokens ≡ codes "delete" ∷ decimal c ∷ []) × (c < 2 ^ 64)
IsAction tokens (Update changes) = IsUpdateLine tokens changes
IsAction tokens (QueryItem kind id) = (tokens ≡ codes "item" ∷ kind_token kind ∷ decimal id ∷ []) × (id < 2 ^ 64)
IsAction tokens (QueryBill c) = (tokens ≡ codes "bill" ∷ decimal c ∷ []) × (c < 2 ^ 64)

-- an item has a unit at least; total and price are within their limits
abbrev pub IsHave : List (List ℕ) → SessionLine → Type 0
IsHave tokens (Have kind id total price) =
    (tokens ≡ codes "have" ∷ kind_token kind ∷ decimal id ∷ decimal total ∷ decimal price ∷ [])
    × (id < 2 ^ 64) × (0 < total) × (total ≤ AMOUNT_LIMIT) × (price ≤ AMOUNT_LIMIT)
IsHave tokens (Does action) = ⊥

-- a session's action is within its limits
abbrev pub IsLine : List (List ℕ) → SessionLine → Type 0
IsLine tokens (Have kind id total price) = IsHave tokens (Have kind id total price)
IsLine tokens (Does action) = IsAction tokens action × IsAllowed action
