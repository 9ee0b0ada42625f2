use Rattle.std.proofs.Common.{◌≡◌, take}
use Rattle.seq_model.specs.Entries.{inserts}
use Rattle.base_pq.proofs.elements.insert_all.Given as goal

abbrev pub invariant-loop-element : goal.invariant-loop-element
invariant-loop-element l = l.entries ≡ inserts l.fn.entries (take l.element-index l.list)
