use Rattle.tx_turns.proofs.releases.release_left.Goals as goal

pub returns-then-has_locks-clause-leads : goal.returns-then-has_locks-clause-leads
returns-then-has_locks-clause-leads g c = λ d s h. c.release_each.ensures.leads.driven s d h

pub returns-clause-leads : goal.returns-clause-leads
returns-clause-leads g c = λ d s h. h
