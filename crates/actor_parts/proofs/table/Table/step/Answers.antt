use Rattle.std.proofs.Common.{refl}
use Rattle.actor_parts.proofs.ShapeLemmas.{keeps_shape}
use Rattle.actor_parts.proofs.TableLemmas.{steps_words}
use Rattle.actor_parts.proofs.table.Table.step.Goals as goal

pub returns-clause-steps : goal.returns-clause-steps
returns-clause-steps g c = steps_words c.args.self.now
    (record { cells = c.step.new.self; gates = c.args.self.now.gates; bases = c.args.self.now.bases }) c.args.actor.now c.step.new.actor
    c.step.result c.step.ensures.steps refl refl

pub returns-clause-keeps : goal.returns-clause-keeps
returns-clause-keeps g c = λ n bs. keeps_shape c.args.self.now
    (record { cells = c.step.new.self; gates = c.args.self.now.gates; bases = c.args.self.now.bases }) n bs c.step.ensures.shape.0
    c.step.ensures.shape.1 refl refl
