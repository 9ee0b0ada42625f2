use Rattle.shared_table.proofs.Ends.{splits, joins, opens_rule}
use Rattle.shared_table.proofs.SeatShares.{looks_on}
use Rattle.shared_table.proofs.laws.shares.Goals as goal

pub returns : goal.returns
returns g c = record { opened = opens_rule; split = splits; look = looks_on; join = joins }
