use Rattle.shared_table.proofs.Ends.{world_closes}
use Rattle.shared_table.proofs.laws.closed_tables.Goals as goal

pub returns : goal.returns
returns g c = world_closes c.serial_worlds.ensures.serial c.bounds.ensures.numbers
