-- The events of a run, each with what it did and what it answered.
use Rattle.std.specs.Prelude.{◌≡◌, ℕ, List, map, take}
use Rattle.seq_model.specs.declared.event.Event.{Event}
use Rattle.replay_log.specs.Worlds.{World}
use Rattle.step_world.specs.declared.parts.Parts.{Parts}
use Rattle.session_text.specs.Worlds.{Leads, told_by}
use Rattle.session_text.specs.declared.rows.Row.{Row}
use Rattle.session_text.specs.declared.rows.TheConstants.{ROW_LIMIT}

-- the events that have rows
abbrev pub first_of : List (Event ℕ) → List (Event ℕ)
first_of es = take ROW_LIMIT es

-- the rows have these events, and what each of them answers in this world
pub record AreRowsOf (w : World ℕ) (es : List (Event ℕ)) (rows : List Row) : Type 0 where
  pub events : map (λ row. row.event) rows ≡ es
  pub notices : map (λ row. row.notice) rows ≡ told_by w es

-- the rows have these events, which led from parts of a world to others, and what each of them answered
pub record AreFed (c : Parts ℕ) (es : List (Event ℕ)) (rows : List Row) (d : Parts ℕ) : Type 0 where
  pub events : map (λ row. row.event) rows ≡ es
  pub leads : Leads c es (map (λ row. row.notice) rows) d

-- they led to some
abbrev pub AreFedBy : Parts ℕ → List (Event ℕ) → List Row → Type 0
AreFedBy c es rows = (d : Parts ℕ) × AreFed c es rows d
