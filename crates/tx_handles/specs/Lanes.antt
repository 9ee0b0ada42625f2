-- A queue in lanes: each lane is a queue, with an order of its own.
use Rattle.std.specs.Prelude.{◌≡◌, ℕ, zero, suc, ◌+◌, ◌<◌, ◌≤◌, List, [], ◌∷◌, ◌++◌}
use Rattle.std.specs.Prelude.{length, Option, Some, None, Result, Ok, Err, slice_get, ◌==◌, if◌then◌else◌}
use Rattle.seq_model.specs.declared.call.Call.{Call}
use Rattle.seq_model.specs.declared.call.Reply.{Reply}
use Rattle.seq_model.specs.declared.held.Held.{Held}
use Rattle.seq_model.specs.declared.held.Held.TheVariants as held
use Rattle.seq_model.specs.Contents.{Contents}
use Rattle.seq_model.specs.Runs.{IsLegal, after_calls}
use Rattle.tx_handles.specs.declared.gates.Gates.{Gates}
use Rattle.tx_handles.specs.declared.lanes.Lanes.{Lanes}
use Rattle.tx_handles.specs.HandleCalls.{HasMadeMore}
use Rattle.tx_handles.specs.Gates.{AreSameBeside}
use Rattle.tx_handles.specs.MadeCall.{TransactionShown}

-- the lanes with one of them changed
abbrev pub with_lane : (ℕ → List ℕ) → ℕ → List ℕ → ℕ → List ℕ
with_lane lanes lane items i = if i == lane then items else lanes i

-- how many items the first lanes have together
abbrev pub total_of : (ℕ → List ℕ) → ℕ → ℕ
total_of lanes zero = 0
total_of lanes (suc n) = total_of lanes n + length (lanes n)

-- the first lane has these items, and no other has any
abbrev pub first_lane : List ℕ → ℕ → List ℕ
first_lane items i = if i == 0 then items else []

module _ {V : Type 0} where
  -- queues of these items in the first lane
  abbrev pub AreFirstOf : Gates → List ℕ → List (Held V) → Type 0
  AreFirstOf g items hs =
      (length hs ≡ g.others + 1) × ((i : ℕ) → i ≤ g.others → slice_get hs i ≡ Some (held.Queue 0 (first_lane items i)))

  -- each of these collections is a queue of the items of its lane
  abbrev pub AreLanes : Gates → (ℕ → List ℕ) → List (Held V) → Type 0
  AreLanes g lanes hs = (i : ℕ) → i ≤ g.others → (head : ℕ) × (slice_get hs (g.first + i) ≡ Some (held.Queue head (lanes i)))

  module _ (g : Gates) (lanes : ℕ → List ℕ) where
    -- from one state to another: one lane has this item more, at its end; or where there is no room, none has
    abbrev pub IsAdded : {E : Type 0} → ℕ → Result (Unit {0}) E → Contents V → Type 0
    IsAdded item (Ok done) t = (lane : ℕ) × (lane ≤ g.others) × AreLanes g (with_lane lanes lane (lanes lane ++ item ∷ [])) t.held
    IsAdded item (Err full) t = AreLanes g lanes t.held

    -- one lane has lost this item, its first; or there was none in any lane
    abbrev pub IsTaken : Option ℕ → Contents V → Type 0
    IsTaken (Some item) t =
        (lane : ℕ) × (rest : List ℕ) × (lane ≤ g.others) × (lanes lane ≡ item ∷ rest) × AreLanes g (with_lane lanes lane rest) t.held
    IsTaken None t = ((i : ℕ) → i ≤ g.others → lanes i ≡ []) × AreLanes g lanes t.held

    abbrev pub IsCounted : ℕ → Contents V → Type 0
    IsCounted count t = (count ≡ total_of lanes (g.others + 1)) × AreLanes g lanes t.held

  -- These calls do so with the lanes, whatever these hold: wherever they have these replies, and all else is the same.
  abbrev pub DoWithLanes : Gates → ((ℕ → List ℕ) → Contents V → Type 0) → List (Call V × Reply V) → Type 0
  DoWithLanes g Does calls = (s : Contents V) (lanes : ℕ → List ℕ) → AreLanes g lanes s.held → IsLegal calls s
      → Does lanes (after_calls calls s) × AreSameBeside g s (after_calls calls s)

  abbrev pub HasDoneWithLanes : (before : TransactionShown V) (l : Lanes) → ((ℕ → List ℕ) → Contents V → Type 0)
      → (now : TransactionShown V) → Type 0
  HasDoneWithLanes before l Does now = HasMadeMore (DoWithLanes l.gates Does) before l.store now

  -- the lanes from one on and before another were looked at in order; the first of them that had any has lost its first item
  abbrev pub IsTakenFrom : Gates → ℕ → ℕ → (ℕ → List ℕ) → Option ℕ → Contents V → Type 0
  IsTakenFrom g first end lanes (Some item) t = IsTaken g lanes (Some item) t
  IsTakenFrom g first end lanes None t = ((i : ℕ) → first ≤ i → i < end → lanes i ≡ []) × AreLanes g lanes t.held

  pub record HasTakenFrom (before : TransactionShown V) (l : Lanes) (first end : ℕ) (found : Option ℕ) (now : TransactionShown V) : Type 0
    where
      pub own : first < end → before.store ≡ l.store
      pub more : List (Call V × Reply V)
      pub made : now ≡ record { store = before.store; calls = before.calls ++ more }
      pub are : DoWithLanes l.gates (λ lanes t. IsTakenFrom l.gates first end lanes found t) more
