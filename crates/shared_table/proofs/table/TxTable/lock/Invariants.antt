use Rattle.shared_table.specs.Seated.{list_of}
use Rattle.shared_table.proofs.table.TxTable.lock.Given as goal

abbrev pub ghost-swap_word : goal.ghost-swap_word
ghost-swap_word g a = list_of a.seat.now.asked
