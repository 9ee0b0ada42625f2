use Rattle.shared_table.specs.Seated.{list_of}
use Rattle.shared_table.proofs.table.TxTable.store_value.Given as goal

abbrev pub ghost-store_word : goal.ghost-store_word
ghost-store_word g a = list_of a.seat.now.asked
