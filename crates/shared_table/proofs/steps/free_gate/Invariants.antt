use Rattle.std.proofs.Common.{◌≡◌, None}
use Rattle.atomic_table.specs.Table.{rest}
use Rattle.shared_table.specs.Opening.{world_at}
use Rattle.shared_table.specs.Shown.{Told, Went}
use Rattle.shared_table.proofs.steps.free_gate.Given as goal

abbrev pub ghosts-store : goal.ghosts-store
ghosts-store g a = record {
  then = λ st m new t. Told (world_at a.self.now.key) a.seat.now.id g.of.0 m.0.clock m 1 None t.0 × (t.1 ≡ rest m.1)
      × Went (world_at a.self.now.key) a.seat.now.id t;
}
