use Rattle.std.proofs.Common.{ap}
use Rattle.actor_parts.specs.Dispatch.{is_loading}
use Rattle.tx_actor.specs.Running.{stage_of}
use Rattle.tx_actor.specs.declared.actor.Stage.{Stage}
use Rattle.tx_turns.proofs.turns.step.Goals as goal

pub returns-in-Closing-clause-own : goal.returns-in-Closing-clause-own
returns-in-Closing-clause-own g c =
    c.turns_keep_own.ensures.words c.args.table.now c.args.seat.now c.close-told.new.seat c.args.actor.now c.close-told.new.actor _
    c.args.bases.now c.requires.ties c.requires.own c.close-told.ensures.turned c.close-told.ensures.ties c.close-told.ensures.leaves
    c.requires.due (ap (λ (s : Stage _). is_loading (stage_of s)) c.in-Closing.is)
