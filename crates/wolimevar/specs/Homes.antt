-- Where the seats of lent clients come back.
use Rattle.std.specs.Prelude.{◌≡◌}
use Rattle.std.specs.Arc.{arc_value}
use Rattle.shared_table.specs.declared.table.TxTable.{TxTable}
use Rattle.wolimevar.specs.declared.homes.Home.{Home}

module _ {V : Type 0} where
  -- a home that takes seats of this table
  abbrev pub IsHomeOf : TxTable V → Home V → Type 0
  IsHomeOf t h = (arc_value h.slot).value ≡ t
