use Rattle.base_bag.specs.FrameLemmas.{laws, calls_commute}
use Rattle.base_bag.proofs.laws.frame_laws.Goals as goal

pub returns-clause-laws : goal.returns-clause-laws
returns-clause-laws g c = laws

pub returns-clause-commute : goal.returns-clause-commute
returns-clause-commute g c = calls_commute
