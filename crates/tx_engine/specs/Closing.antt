-- What a closed table holds is what the receipts of its last seat leave.
use Rattle.std.specs.Prelude.{◌≡◌, ℕ, ◌<◌, All, List, Some, get_or, slice_get}
use mathlib.Core.Option.{some}
use lib.ListN.{get_elem?}
use Rattle.seq_model.specs.Calls.{IsWithinLimits}
use Rattle.seq_model.specs.Contents.{Contents}
use Rattle.seq_model.specs.Runs.{IsInCommitOrder, IsRun, after_run}
use Rattle.seq_model.specs.declared.record.Record.{Record}
use Rattle.replay_log.specs.declared.base.Base.{Base}
use Rattle.replay_log.specs.Base.{held_of, shown_of}
use Rattle.replay_log.specs.WorldSerial.{AreUpTo}
use Rattle.tx_machine.specs.Cells.{ValueCell}
use Rattle.shared_table.specs.declared.closed.Closed.{Closed}
use Rattle.shared_table.specs.Ends.{held_in, homes_of, row_of}
use Rattle.shared_table.specs.Layout.{address, values_in}
use Rattle.shared_table.specs.Shown.{total}

module _ {V : Type 0} where
  abbrev pub clock_of : Closed V → ℕ
  clock_of c = get_or (row_of c) 0 0

  abbrev pub word_of : Closed V → ℕ → ℕ
  word_of c w = get_or (row_of c) (address c.locations (ValueCell w)) 0

  -- what its words and its collections hold
  abbrev pub state_of : Closed V → Contents V
  state_of c = record { words = values_in c.locations c.words (row_of c); held = held_in c }

  -- The receipts, in commit order, are a run from the opening, with no number above the clock. Each word and each collection is what the
  -- run leaves, and so is the state that they make up, which is within the limits of states.
  pub record IsLeftBy (opening : Contents V) (receipts : List (ℕ × Record V)) (c : Closed V) : Type 0 where
    pub order : List (ℕ × Record V)
    pub same : (h : ℕ × Record V → ℕ) → total h receipts ≡ total h order
    pub in_order : IsInCommitOrder order
    pub numbers : AreUpTo (clock_of c) order
    pub serial : IsRun order opening
    pub words : (w : ℕ) → w < c.words → word_of c w ≡ get_or (after_run order opening).words w 0
    pub collections : (k : ℕ) (base : Base V) → get_elem? (homes_of c) k ≡ some (Some base)
        → slice_get (after_run order opening).held k ≡ Some (held_of (shown_of base))
    pub within : All IsWithinLimits (held_in c)
    pub state : after_run order opening ≡ state_of c
