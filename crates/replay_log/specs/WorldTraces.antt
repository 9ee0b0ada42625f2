-- What a world shows at a moment: its records, its aborted transactions, what its words and bases hold, and its half-done commits; and
-- which steps add to the records and to the aborted transactions.
use Rattle.std.specs.Prelude.{ℕ, ◌+◌, Bool, true, false, ◌&&◌, ◌==◌, if◌then◌else◌, List, [], ◌∷◌, map, Option, Some, None}
use Rattle.seq_model.specs.declared.held.Held.{Held}
use Rattle.seq_model.specs.declared.record.Record.{Record}
use Rattle.seq_model.specs.Contents.{Contents}
use Rattle.seq_model.specs.Runs.{insert_record}
use Rattle.conflict.specs.Footprints.{all_below}
use Rattle.replay_log.specs.Base.{Shown, held_of}
use Rattle.replay_log.specs.Contents.{Block, size, seen}
use Rattle.replay_log.specs.Seats.{Stage, Releasing, Closing, Leaving, Ready, Storing, Homing, Seat, Ended, World}

-- the trace of a world at a moment
pub record Trace (V : Type 0) : Type 0 where
  pub records : List (ℕ × Record V)
  pub aborted : List (Ended V)
  pub state : Contents V
  pub half : List ℕ

module _ {V : Type 0} where
  -- committed, with its last release still to come
  abbrev pub is_half_done : Stage V → Bool
  is_half_done (Storing ks) = true
  is_half_done (Homing ks) = true
  is_half_done Releasing = true
  is_half_done stage = false

  -- the numbers of the half-done commits, rising
  abbrev pub half_in : (ℕ → Seat V) → List (ℕ × Record V) → List ℕ
  half_in seats [] = []
  half_in seats (r ∷ rs) =
      let rest = half_in seats rs in
      if r.1.writes && (is_half_done (seats r.0).stage && (r.1.number == (seats r.0).wv)) then r.1.number ∷ rest else rest

  abbrev pub half : World V → List ℕ
  half w = half_in w.seats w.records

  -- the collections whose parts stand from location f on
  abbrev pub held_from : ℕ → List Block → (ℕ → Shown V) → List (Held V)
  held_from f [] parts = []
  held_from f (b ∷ bs) parts = held_of (seen b f parts) ∷ held_from (f + size b) bs parts

  -- what its words and its bases hold
  abbrev pub state : World V → Contents V
  state w = record { words = map w.boosted.words.values (all_below w.words); held = held_from w.words w.blocks w.boosted.parts }

  abbrev pub trace : World V → Trace V
  trace w = record { records = w.records; aborted = w.aborted; state = state w; half = half w }

  -- what the next step of an actor commits: the first value store of a writer, and the load of the clock that ends a transaction without
  -- writes
  abbrev pub committed_by : Seat V → Stage V → Option (Record V)
  committed_by x (Ready ks) = Some (record { number = x.wv; writes = true; calls = x.calls })
  committed_by x Closing = Some (record { number = x.rv; writes = false; calls = x.calls })
  committed_by x stage = None

  abbrev pub with_record : ℕ → Option (Record V) → List (ℕ × Record V) → List (ℕ × Record V)
  with_record a (Some r) rs = insert_record (a, r) rs
  with_record a None rs = rs

  -- and what it ends: the load of the clock that ends an aborted transaction
  abbrev pub ended_by : ℕ → Seat V → Stage V → List (Ended V)
  ended_by a x Leaving = record { actor = a; rv = x.rv; calls = x.calls; cause = x.cause } ∷ []
  ended_by a x stage = []
