use Rattle.shared_table.specs.Seated.{list_of}
use Rattle.shared_table.proofs.table.TxTable.load_lock.Given as goal

abbrev pub ghost-load_word : goal.ghost-load_word
ghost-load_word g a = list_of a.seat.now.asked
