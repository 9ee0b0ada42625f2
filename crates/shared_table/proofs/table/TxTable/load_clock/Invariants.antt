use Rattle.shared_table.specs.Seated.{list_of}
use Rattle.shared_table.proofs.table.TxTable.load_clock.Given as goal

abbrev pub ghost-load_first : goal.ghost-load_first
ghost-load_first g a = list_of a.seat.now.asked
