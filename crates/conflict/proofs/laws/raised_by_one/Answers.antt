use Rattle.conflict.proofs.EditionLemmas.{raised_written, raised_other}
use Rattle.conflict.proofs.laws.raised_by_one.Goals as goal

pub returns-clause-written : goal.returns-clause-written
returns-clause-written c = raised_written

pub returns-clause-others : goal.returns-clause-others
returns-clause-others c = raised_other
