use Rattle.std.proofs.Common.{◌∙◌, arith, sym, subst}
use Rattle.tx_actor.specs.Running.{stage_of}
use Rattle.step_core.specs.Sound.{Fits}
use Rattle.step_world.proofs.TurnLemmas.{first_turns, grows_less, grows_more}
use Rattle.tx_actor.proofs.StepLemmas.{quiet_first, running_moved, still_quiet}
use Rattle.tx_actor.specs.CopiesByStage.{KeepsFrom}
use Rattle.tx_actor.specs.declared.actor.TxActor.{TxActor}
use Rattle.step_world.proofs.turns.first_store.Goals as goal

pub step-told-requires-clause-fits : goal.step-told-requires-clause-fits
step-told-requires-clause-fits g c = subst (λ n. Fits n c.request_store.new.self.words) (sym c.requires.shape.locks)
    ((c.request_store.ensures.keeps (quiet_first (stage_of c.args.actor.now.stage) c.requires.due)).running c.requires.running).fits

pub step-told-requires-clause-same : goal.step-told-requires-clause-same
step-told-requires-clause-same g c = c.requires.shape.values ∙ sym c.requires.shape.locks

pub step-told-requires-clause-clock : goal.step-told-requires-clause-clock
step-told-requires-clause-clock g c =
    (let less = (c.request_store.ensures.keeps (quiet_first (stage_of c.args.actor.now.stage) c.requires.due)).owed in
    omega (arith, less, c.requires.clock))

pub on_step-requires : goal.on_step-requires
on_step-requires g c = (running_moved c.args.blocks.now c.request_store.new.self c.step-told.new.actor c.step-told.ensures.fits
    (still_quiet c.args.actor.now c.request_store.new.self c.request_store.ensures.rest
    (quiet_first (stage_of c.args.actor.now.stage) c.requires.due))
    ((c.request_store.ensures.keeps (quiet_first (stage_of c.args.actor.now.stage) c.requires.due)).running c.requires.running)).room

pub returns-clause-turns : goal.returns-clause-turns
returns-clause-turns g c =
    λ v a. first_turns c.steps_as_worlds.ensures c.goes_on_as_worlds.ensures v a c.args.table.now c.step-told.new.self c.args.actor.now
    c.request_store.new.self
    c.on_step.new.self c.step-told.new.actor c.step-told.result c.on_step.result c.requires.due c.in_ok-request_store.ensures.ok
    c.step-told.ensures.steps c.on_step.ensures.does

pub returns-clause-running : goal.returns-clause-running
returns-clause-running g c = (c.on_step.ensures.keeps c.args.blocks.now).running
    (running_moved c.args.blocks.now c.request_store.new.self c.step-told.new.actor c.step-told.ensures.fits
    (still_quiet c.args.actor.now c.request_store.new.self c.request_store.ensures.rest
    (quiet_first (stage_of c.args.actor.now.stage) c.requires.due))
    ((c.request_store.ensures.keeps (quiet_first (stage_of c.args.actor.now.stage) c.requires.due)).running c.requires.running))

pub returns-clause-grows : goal.returns-clause-grows
returns-clause-grows g c = grows_more c.args.table.now.cells c.step-told.new.self.cells c.args.actor.now.words
    c.request_store.new.self.words c.on_step.new.self.words (c.request_store.ensures.keeps
    (quiet_first (stage_of c.args.actor.now.stage) c.requires.due)).owed
    (grows_less c.args.table.now.cells c.step-told.new.self.cells c.request_store.new.self.words c.step-told.new.actor
    c.on_step.new.self.words c.step-told.ensures.grows (c.on_step.ensures.keeps c.args.blocks.now).owed)

pub returns-clause-leaves : goal.returns-clause-leaves
returns-clause-leaves g c =
    let r = c.args.actor.now in
    let p = c.request_store.new.self in
    let s = c.on_step.new.self in
    let quiet = quiet_first (stage_of r.stage) c.requires.due in
    subst (λ (z : TxActor g.row.V.Denot). KeepsFrom s.stage z.stage z.copies.items s.copies.items) c.request_store.ensures.rest
    (c.on_step.ensures.leaves (still_quiet r p c.request_store.ensures.rest quiet))
