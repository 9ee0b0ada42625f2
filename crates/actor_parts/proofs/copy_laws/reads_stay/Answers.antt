use Rattle.actor_parts.proofs.ReadLemmas.{reads_accepted, reads_more, reads_same}
use Rattle.actor_parts.proofs.copy_laws.reads_stay.Goals as goal

pub returns-clause-same : goal.returns-clause-same
returns-clause-same g c = reads_same

pub returns-clause-more : goal.returns-clause-more
returns-clause-more g c = reads_more

pub returns-clause-accepted : goal.returns-clause-accepted
returns-clause-accepted g c = reads_accepted
