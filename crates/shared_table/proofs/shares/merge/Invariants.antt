use Rattle.shared_table.specs.declared.view.TheConstants.{SHARES}
use Rattle.std.proofs.Common.{◌≡◌, ◌≤◌}
use Rattle.shared_table.specs.Shown.{both_of, spent_of}
use Rattle.shared_table.proofs.shares.merge.Given as goal

abbrev pub ghosts-join_seat : goal.ghosts-join_seat
ghosts-join_seat g a = record { both = λ v u. both_of v a.other.id u; spent = spent_of a.other.me.0 }

abbrev pub ghosts-load : goal.ghosts-load
ghosts-load g a = record { then = λ st m found t. (t ≡ m) × (m.0.shares ≤ SHARES) }
