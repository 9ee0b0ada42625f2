use Rattle.std.proofs.Common.{◌≡◌, ℕ, None}
use Rattle.shared_table.specs.Opening.{world_at}
use Rattle.shared_table.specs.Shown.{Told, Went}
use Rattle.shared_table.proofs.steps.store_word.Given as goal

abbrev pub ghosts-store : goal.ghosts-store
ghosts-store g a = record {
  then = λ st m new t. (found : ℕ) × Told (world_at a.self.now.key) a.seat.now.id g.asks m.0.clock m found None t.0 × (t.1 ≡ m.1)
      × Went (world_at a.self.now.key) a.seat.now.id t;
}
