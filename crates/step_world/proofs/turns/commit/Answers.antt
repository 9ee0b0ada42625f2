use Rattle.step_world.proofs.TurnLemmas.{turns_made}
use Rattle.tx_actor.proofs.StepLemmas.{running_made}
use Rattle.step_world.proofs.turns.commit.Goals as goal

pub returns-clause-turns : goal.returns-clause-turns
returns-clause-turns g c = λ v a. turns_made v _ c.args.table.now c.first_store.new.table c.args.actor.now c.first_store.new.actor
    c.replace.new.dest c.in_ok-told.told (c.in_ok-told.ensures.turns v a)

pub returns-clause-running : goal.returns-clause-running
returns-clause-running g c = running_made c.args.blocks.now c.first_store.new.actor c.replace.new.dest c.first_store.ensures.running

pub returns-clause-leaves : goal.returns-clause-leaves
returns-clause-leaves g c = c.in_ok-told.ensures.leaves
