use Rattle.step_world.proofs.TurnLemmas.{try_turns}
use Rattle.tx_actor.proofs.StepLemmas.{quiet_try}
use Rattle.tx_actor.specs.Running.{stage_of}
use Rattle.step_world.proofs.turns.try_gate.Goals as goal

pub returns-clause-turns : goal.returns-clause-turns
returns-clause-turns g c =
    λ v. try_turns c.steps_as_worlds.ensures v c.args.number c.args.k c.args.table.now c.take_gate-free.new.self c.args.actor.now
    c.on_gate_tried.new.self c.take_gate-free.result c.on_gate_tried.result c.requires.due c.take_gate-free.ensures.tries
    c.on_gate_tried.ensures.does

pub returns-clause-leaves : goal.returns-clause-leaves
returns-clause-leaves g c = c.on_gate_tried.ensures.leaves (quiet_try (stage_of c.args.actor.now.stage) c.args.k c.requires.due)
