use Rattle.shared_table.specs.Opening.{world_at}
use Rattle.shared_table.specs.Shown.{Took, Went}
use Rattle.shared_table.proofs.steps.try_gate.Given as goal

abbrev pub ghosts-compare_exchange : goal.ghosts-compare_exchange
ghosts-compare_exchange g a = record {
  then = λ st m found t. Took (world_at a.self.now.key) a.seat.now.id g.of.0 m g.of.1 found t
      × Went (world_at a.self.now.key) a.seat.now.id t;
}
