use Rattle.std.proofs.Common.{◌≡◌, ◌≤◌, None}
use Rattle.shared_table.specs.Opening.{world_at}
use Rattle.shared_table.specs.Shown.{highest_clock, Told, Went}
use Rattle.shared_table.proofs.steps.load_first.Given as goal

abbrev pub ghosts-load : goal.ghosts-load
ghosts-load g a = record {
  then = λ st m found t. Told (world_at a.self.now.key) a.seat.now.id g.asks found m found None t.0 × (t.1 ≡ m.1)
      × (m.0.clock ≤ found) × (found ≤ highest_clock) × Went (world_at a.self.now.key) a.seat.now.id t;
}
