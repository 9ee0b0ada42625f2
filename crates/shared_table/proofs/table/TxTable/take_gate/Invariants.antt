use Rattle.shared_table.specs.Seated.{list_of}
use Rattle.shared_table.proofs.table.TxTable.take_gate.Given as goal

abbrev pub ghost-try_gate : goal.ghost-try_gate
ghost-try_gate g a = (list_of a.seat.now.asked, a.gate)
