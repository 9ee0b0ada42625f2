use Rattle.shared_table.specs.Seated.{list_of}
use Rattle.shared_table.proofs.table.TxTable.stamp.Given as goal

abbrev pub ghost-add_one : goal.ghost-add_one
ghost-add_one g a = list_of a.seat.now.asked
