use Rattle.std.proofs.Common.{◌≡◌, map, take}
use Rattle.replay_log.specs.Base.{held_of, shown_of}
use Rattle.shared_table.specs.Ends.{bases_in, homes_of}
use Rattle.shared_table.proofs.closed.Closed.held.Given as goal

abbrev pub invariant-loop-k : goal.invariant-loop-k
invariant-loop-k g l = l.held.items ≡ map (λ base. held_of (shown_of base)) (bases_in (take l.k (homes_of l.self)))
