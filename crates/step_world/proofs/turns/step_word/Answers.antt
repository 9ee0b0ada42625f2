use Rattle.std.proofs.Common.{◌∙◌, sym, subst}
use Rattle.step_core.specs.Sound.{Fits}
use Rattle.step_world.proofs.TurnLemmas.{grows_less, word_turns}
use Rattle.tx_actor.proofs.StepLemmas.{running_moved}
use Rattle.step_world.proofs.turns.step_word.Goals as goal

pub step-told-requires-clause-fits : goal.step-told-requires-clause-fits
step-told-requires-clause-fits g c = subst (λ n. Fits n c.args.actor.now.words) (sym c.requires.shape.locks) c.requires.running.fits

pub step-told-requires-clause-same : goal.step-told-requires-clause-same
step-told-requires-clause-same g c = c.requires.shape.values ∙ sym c.requires.shape.locks

pub on_step-requires : goal.on_step-requires
on_step-requires g c =
    (running_moved c.args.blocks.now c.args.actor.now c.step-told.new.actor c.step-told.ensures.fits c.requires.word
    c.requires.running).room

pub returns-clause-turns : goal.returns-clause-turns
returns-clause-turns g c =
    λ v a. word_turns c.steps_as_worlds.ensures c.goes_on_as_worlds.ensures v a c.args.table.now c.step-told.new.self c.args.actor.now
    c.on_step.new.self
    c.step-told.new.actor c.step-told.result c.on_step.result c.requires.due c.requires.word c.step-told.ensures.steps
    c.on_step.ensures.does

pub returns-clause-running : goal.returns-clause-running
returns-clause-running g c = (c.on_step.ensures.keeps c.args.blocks.now).running
    (running_moved c.args.blocks.now c.args.actor.now c.step-told.new.actor c.step-told.ensures.fits c.requires.word c.requires.running)

pub returns-clause-grows : goal.returns-clause-grows
returns-clause-grows g c = grows_less c.args.table.now.cells c.step-told.new.self.cells c.args.actor.now.words c.step-told.new.actor
    c.on_step.new.self.words c.step-told.ensures.grows (c.on_step.ensures.keeps c.args.blocks.now).owed

pub returns-clause-leaves : goal.returns-clause-leaves
returns-clause-leaves g c = c.on_step.ensures.leaves c.requires.word
