use Rattle.tx_turns.proofs.locks.lock_left.Goals as goal

pub returns-in-Some-clause-leads : goal.returns-in-Some-clause-leads
returns-in-Some-clause-leads g c = λ d s h. c.lock_each.ensures.leads.driven s d h

pub returns-in-None-clause-leads : goal.returns-in-None-clause-leads
returns-in-None-clause-leads g c = λ d s h. h
