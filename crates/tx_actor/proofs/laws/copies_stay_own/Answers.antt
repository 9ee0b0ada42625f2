use Rattle.tx_actor.proofs.CopyListLemmas.{of_blocks, owns_accepted, owns_by, owns_nothing}
use Rattle.std.proofs.Common.{Some, refl}
use Rattle.tx_actor.proofs.laws.copies_stay_own.Goals as goal

pub returns-clause-begun : goal.returns-clause-begun
returns-clause-begun g c = owns_nothing

pub returns-clause-same : goal.returns-clause-same
returns-clause-same g c = owns_by

pub returns-clause-accepted : goal.returns-clause-accepted
returns-clause-accepted g c r u w v a i j o ew eb es at of is = owns_accepted w v a j o r u i (Some o) (ew, eb, es) refl at of is

pub returns-clause-blocks : goal.returns-clause-blocks
returns-clause-blocks g c = of_blocks
