use Rattle.std.proofs.Common.{◌∙◌, sym, subst}
use Rattle.step_core.specs.Sound.{Fits}
use Rattle.step_world.proofs.LoadLemmas.{load_heard, load_own, load_turns}
use Rattle.step_world.proofs.TurnLemmas.{grows_less}
use Rattle.step_world.proofs.loading.load_word.Goals as goal

pub step-told-requires-clause-fits : goal.step-told-requires-clause-fits
step-told-requires-clause-fits g c = subst (λ n. Fits n c.args.actor.now.words) (sym c.requires.shape.locks) c.requires.running.fits

pub step-told-requires-clause-same : goal.step-told-requires-clause-same
step-told-requires-clause-same g c = c.requires.shape.values ∙ sym c.requires.shape.locks

pub on_load_step-requires : goal.on_load_step-requires
on_load_step-requires g c = record {
  prepared = (load_heard c.steps_as_worlds.ensures c.loads_keep_running.ensures c.args.blocks.now c.args.table.now
      c.step-told.new.self c.args.actor.now c.step-told.new.actor c.step-told.result c.requires.loading c.requires.running
      c.requires.seated c.step-told.ensures.steps c.step-told.ensures.room c.step-told.ensures.fits).0;
}

pub returns-clause-turns : goal.returns-clause-turns
returns-clause-turns g c = λ v a. load_turns c.steps_as_worlds.ensures c.loads_as_worlds.ensures.heard c.seats_as_actors.ensures
    c.args.blocks.now v a c.args.table.now c.step-told.new.self c.args.actor.now c.on_load_step.new.self c.step-told.new.actor
    c.step-told.result c.on_load_step.result c.requires.loading c.requires.running c.step-told.ensures.steps c.on_load_step.ensures.does

pub returns-clause-own : goal.returns-clause-own
returns-clause-own g c v a =
    let steps = c.steps_as_worlds.ensures in
    let t = c.args.table.now in
    let r = c.args.actor.now in
    load_own steps c.loads_stay_own.ensures c.copies_stay.ensures.others c.copies_by_stage.ensures.others v a t c.step-told.new.self r
    c.on_load_step.new.self c.step-told.new.actor c.step-told.result c.on_load_step.result c.requires.loading c.step-told.ensures.steps
    (load_turns steps c.loads_as_worlds.ensures.heard c.seats_as_actors.ensures c.args.blocks.now v a t c.step-told.new.self r
    c.on_load_step.new.self c.step-told.new.actor c.step-told.result c.on_load_step.result c.requires.loading c.requires.running
    c.step-told.ensures.steps c.on_load_step.ensures.does) c.on_load_step.ensures.goes

pub returns-clause-running : goal.returns-clause-running
returns-clause-running g c = (c.on_load_step.ensures.keeps c.args.blocks.now).running
    (load_heard c.steps_as_worlds.ensures c.loads_keep_running.ensures c.args.blocks.now c.args.table.now
    c.step-told.new.self c.args.actor.now c.step-told.new.actor c.step-told.result c.requires.loading c.requires.running c.requires.seated
    c.step-told.ensures.steps c.step-told.ensures.room c.step-told.ensures.fits).1

pub returns-clause-grows : goal.returns-clause-grows
returns-clause-grows g c = grows_less c.args.table.now.cells c.step-told.new.self.cells c.args.actor.now.words c.step-told.new.actor
    c.on_load_step.new.self.words c.step-told.ensures.grows (c.on_load_step.ensures.keeps c.args.blocks.now).owed
