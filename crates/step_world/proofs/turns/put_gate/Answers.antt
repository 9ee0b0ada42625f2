use Rattle.step_world.proofs.TurnLemmas.{put_turns}
use Rattle.tx_actor.proofs.StepLemmas.{quiet_put}
use Rattle.tx_actor.specs.Running.{stage_of}
use Rattle.step_world.proofs.turns.put_gate.Goals as goal

pub returns-clause-turns : goal.returns-clause-turns
returns-clause-turns g c =
    λ v a. put_turns c.steps_as_worlds.ensures v a c.args.k c.args.table.now c.put_gate.new.self c.args.actor.now c.on_gate_put.new.self
    c.on_gate_put.result c.requires.due (λ w which. c.put_gate.ensures.puts w a which) c.on_gate_put.ensures.does

pub returns-clause-leaves : goal.returns-clause-leaves
returns-clause-leaves g c = c.on_gate_put.ensures.leaves (quiet_put (stage_of c.args.actor.now.stage) c.args.k c.requires.due)
