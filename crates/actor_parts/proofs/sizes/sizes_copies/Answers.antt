use Rattle.actor_parts.proofs.FootprintLemmas.{base_reads_below, base_writes_below}
use Rattle.actor_parts.proofs.SizesLemmas.{sizes_as_reached}
use Rattle.actor_parts.proofs.sizes.sizes_copies.Goals as goal

pub returns-clause-sizes : goal.returns-clause-sizes
returns-clause-sizes g c = sizes_as_reached

pub returns-clause-within : goal.returns-clause-within
returns-clause-within g c base o pos = (base_reads_below base o pos, base_writes_below base o pos)
