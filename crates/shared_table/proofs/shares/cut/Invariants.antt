use Rattle.shared_table.specs.Shown.{left_of, right_of}
use Rattle.shared_table.proofs.shares.cut.Given as goal

abbrev pub ghosts-split_seat : goal.ghosts-split_seat
ghosts-split_seat g a = record { left = left_of g.count; right = right_of g.count }
