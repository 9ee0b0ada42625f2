-- What contracts see of a store, and what it leaves.
use Rattle.std.specs.Prelude.{◌≡◌, ℕ, List}
use Rattle.seq_model.specs.Contents.{Contents}
use Rattle.seq_model.specs.Runs.{IsInCommitOrder, IsRun, after_run}
use Rattle.seq_model.specs.declared.event.Request.{Request}
use Rattle.seq_model.specs.declared.record.Record.{Record}
use Rattle.tx_client.specs.declared.tally.Tally.{Tally}
use Rattle.shared_table.specs.Shown.{total}

module _ (V : Type 0) where
  -- its number, what it opened with, the receipts of its transactions, each with the number of its actor, the last number that it committed
  -- or learnt, what its own actor was asked, and how its own attempts ended
  pub record StoreShown : Type 0 where
    pub number : ℕ
    pub opening : Contents V
    pub receipts : List (ℕ × Record V)
    pub last : ℕ
    pub asked : List (Request V)
    pub tally : Tally

module _ {V : Type 0} where
  -- the receipts, in commit order, are a run from the opening that leaves this
  pub record IsLeftBy (s : StoreShown V) (left : Contents V) : Type 0 where
    pub order : List (ℕ × Record V)
    pub same : (h : ℕ × Record V → ℕ) → total h s.receipts ≡ total h order
    pub in_order : IsInCommitOrder order
    pub serial : IsRun order s.opening
    pub leaves : after_run order s.opening ≡ left
