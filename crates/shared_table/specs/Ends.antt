-- What a closed table holds.
use Rattle.std.specs.Prelude.{ℕ, List, [], ◌∷◌, map, Some, None}
use Rattle.std.specs.Slots.{slots_items}
use Rattle.seq_model.specs.declared.held.Held.{Held}
use Rattle.replay_log.specs.declared.base.Base.{Base}
use Rattle.replay_log.specs.Base.{held_of, shown_of}
use Rattle.shared_table.specs.declared.closed.Closed.{Closed}
use Rattle.shared_table.specs.Shown.{Slot}

module _ {V : Type 0} where
  -- its words: the clock, lock words, values and gates
  abbrev pub row_of : Closed V → List ℕ
  row_of c = slots_items c.row.words

  -- the base of each collection
  abbrev pub homes_of : Closed V → List (Slot V)
  homes_of c = slots_items c.row.slots

  -- the bases among these slots
  abbrev pub bases_in : List (Slot V) → List (Base V)
  bases_in [] = []
  bases_in (None ∷ slots) = bases_in slots
  bases_in (Some base ∷ slots) = base ∷ bases_in slots

  -- what the bases of a closed table hold
  abbrev pub held_in : Closed V → List (Held V)
  held_in c = map (λ base. held_of (shown_of base)) (bases_in (homes_of c))
