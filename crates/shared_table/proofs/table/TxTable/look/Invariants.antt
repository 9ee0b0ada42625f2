use Rattle.std.proofs.Common.{◌≡◌, ◌≤◌}
use Rattle.shared_table.specs.Shown.{highest_clock, looking}
use Rattle.shared_table.proofs.table.TxTable.look.Given as goal

abbrev pub ghosts-load : goal.ghosts-load
ghosts-load g a = record {
  then = λ st m found t. (t ≡ (looking m.0 found, m.1)) × (m.0.clock ≤ found) × (found ≤ highest_clock);
}
