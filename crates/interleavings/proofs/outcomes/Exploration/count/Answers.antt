use Rattle.interleavings.proofs.outcomes.Exploration.count.Goals as goal

pub returns-clause-outcomes : goal.returns-clause-outcomes
returns-clause-outcomes c = λ all. c.in_ok-add.ensures.outcomes c.args.header.now all c.in_ok-shortest.ensures.outcome
