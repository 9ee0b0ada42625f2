use Rattle.std.proofs.Common.{◌≡◌, None}
use Rattle.shared_table.specs.Opening.{world_at}
use Rattle.shared_table.specs.Shown.{Told, Went}
use Rattle.shared_table.proofs.steps.swap_word.Given as goal

abbrev pub ghosts-compare_exchange : goal.ghosts-compare_exchange
ghosts-compare_exchange g a = record {
  then = λ st m found t. Told (world_at a.self.now.key) a.seat.now.id g.asks m.0.clock m found None t.0 × (t.1 ≡ m.1)
      × Went (world_at a.self.now.key) a.seat.now.id t;
}
