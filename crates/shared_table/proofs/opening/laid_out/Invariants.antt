use Rattle.shared_table.specs.Layout.{IsLaidOut}
use Rattle.shared_table.proofs.opening.laid_out.Given as goal

abbrev pub invariant-loop-l : goal.invariant-loop-l
invariant-loop-l l = IsLaidOut l.clock l.values l.l l.gates l.row.items
