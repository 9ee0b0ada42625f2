use Rattle.shared_table.specs.Seated.{list_of}
use Rattle.shared_table.proofs.table.TxTable.put_gate.Given as goal

abbrev pub ghost-free_gate : goal.ghost-free_gate
ghost-free_gate g a = (list_of a.seat.now.asked, a.gate)
