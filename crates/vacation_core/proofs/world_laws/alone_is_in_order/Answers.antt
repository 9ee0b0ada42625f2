use Rattle.vacation_core.proofs.AloneLemmas.{alone_is_in_order}
use Rattle.vacation_core.proofs.world_laws.alone_is_in_order.Goals as goal

pub returns : goal.returns
returns c = alone_is_in_order
