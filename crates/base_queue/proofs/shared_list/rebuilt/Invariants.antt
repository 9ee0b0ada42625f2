use Rattle.std.proofs.Common.{◌≡◌, ◌≤◌, ◌++◌, drop, length}
use Rattle.base_queue.proofs.shared_list.rebuilt.Given as goal

-- the chunks that are kept, and after them those that are still to be shared
abbrev pub invariant-loop-at : goal.invariant-loop-at
invariant-loop-at l = (l.list.items ++ drop l.at l.chunks ≡ drop l.fn.from l.fn.chunks) × (l.at ≤ length l.chunks)
