use Rattle.tx_actor.proofs.StageLemmas.{has_all, has_asked, has_begun, has_stayed, has_stepped}
use Rattle.tx_actor.proofs.laws.copies_by_stage.Goals as goal

pub returns-clause-steps : goal.returns-clause-steps
returns-clause-steps g c = has_stepped c.copies_stay.ensures.stays

pub returns-clause-begun : goal.returns-clause-begun
returns-clause-begun g c = has_begun

pub returns-clause-others : goal.returns-clause-others
returns-clause-others g c = has_stayed c.copies_stay.ensures.stays

pub returns-clause-asked : goal.returns-clause-asked
returns-clause-asked g c = has_asked c.copies_stay.ensures.stays

pub returns-clause-all : goal.returns-clause-all
returns-clause-all g c = has_all
