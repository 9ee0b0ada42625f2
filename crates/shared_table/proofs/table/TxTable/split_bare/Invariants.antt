use Rattle.shared_table.proofs.table.TxTable.split_bare.Given as goal

abbrev pub ghost-cut : goal.ghost-cut
ghost-cut g a = a.shares
