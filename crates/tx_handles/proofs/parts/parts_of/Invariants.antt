use Rattle.std.specs.FinMap.{empty}
use Rattle.seq_model.specs.Entries.{inserts}
use Rattle.tx_handles.specs.Gates.{AreParts}
use Rattle.tx_handles.proofs.parts.parts_of.Given as goal

-- the entries so far are in their parts
abbrev pub invariant-entries : goal.invariant-entries
invariant-entries g l = AreParts l.gates (inserts empty l.yielded) l.parts.items
