use Rattle.std.proofs.Common.{ap, subst, ◌∙◌}
use Rattle.actor_parts.specs.Dispatch.{is_loading}
use Rattle.tx_actor.specs.CopiesByStage.{KeepsFrom}
use Rattle.tx_actor.specs.declared.actor.TxActor.{TxActor}
use Rattle.tx_turns.proofs.FirstLemmas.{first_next, first_turned, is_asked, records_ready, running_asked}
use Rattle.tx_turns.specs.Ties.{laid_in}
use Rattle.tx_turns.proofs.words.store_first.Goals as goal
use Rattle.tx_actor.proofs.StepLemmas.{running_moved}

pub step_words-told-requires-clause-some : goal.step_words-told-requires-clause-some
step_words-told-requires-clause-some g c =
    (is_asked c.args.table.now c.args.seat.now c.args.actor.now c.request_store.new.self c.requires.due
    c.requires.ties c.in_ok-request_store.ensures.ok c.request_store.ensures.rest).1.due

pub step_words-told-requires-clause-due : goal.step_words-told-requires-clause-due
step_words-told-requires-clause-due g c =
    let h = is_asked c.args.table.now c.args.seat.now c.args.actor.now c.request_store.new.self c.requires.due c.requires.ties
    c.in_ok-request_store.ensures.ok c.request_store.ensures.rest in
    first_next c.args.table.now c.args.seat.now c.args.actor.now c.request_store.new.self h.0 h.1

pub on_step-requires : goal.on_step-requires
on_step-requires g c =
    let t = c.args.table.now in
    let r = c.args.actor.now in
    let p = c.request_store.new.self in
    let h = is_asked t c.args.seat.now r p c.requires.due c.requires.ties c.in_ok-request_store.ensures.ok c.request_store.ensures.rest in
    let running = running_asked t c.blocks-2.result.now r p h.0 c.blocks-2.ensures.words c.blocks-2.ensures.blocks h.1.at
    c.request_store.ensures.keeps c.requires.ties.running in
    (running_moved (laid_in t) p c.step_words-told.new.actor c.step_words-told.ensures.fits (ap is_loading h.1.own_at) running).room

pub returns-clause-turned : goal.returns-clause-turned
returns-clause-turned g c =
    let t = c.args.table.now in
    let s = c.args.seat.now in
    let r = c.args.actor.now in
    let p = c.request_store.new.self in
    let y = c.step_words-told.new.actor in
    let stores = c.in_ok-request_store.ensures.ok in
    let h = is_asked t s r p c.requires.due c.requires.ties stores c.request_store.ensures.rest in
    let running = running_asked t c.blocks-2.result.now r p h.0 c.blocks-2.ensures.words c.blocks-2.ensures.blocks h.1.at
    c.request_store.ensures.keeps c.requires.ties.running in
    (first_turned c.steps_as_worlds.ensures t s c.step_words-told.new.seat r p c.on_step.new.self y c.step_words-told.result
    c.on_step.result
    h.0 h.1 c.requires.ties stores c.step_words-told.ensures.steps c.on_step.ensures.does ((c.on_step.ensures.keeps (laid_in t)).running
    (running_moved (laid_in t) p y c.step_words-told.ensures.fits (ap is_loading h.1.own_at) running))).1

pub returns-clause-ties : goal.returns-clause-ties
returns-clause-ties g c =
    let t = c.args.table.now in
    let s = c.args.seat.now in
    let r = c.args.actor.now in
    let p = c.request_store.new.self in
    let y = c.step_words-told.new.actor in
    let stores = c.in_ok-request_store.ensures.ok in
    let h = is_asked t s r p c.requires.due c.requires.ties stores c.request_store.ensures.rest in
    let running = running_asked t c.blocks-2.result.now r p h.0 c.blocks-2.ensures.words c.blocks-2.ensures.blocks h.1.at
    c.request_store.ensures.keeps c.requires.ties.running in
    (first_turned c.steps_as_worlds.ensures t s c.step_words-told.new.seat r p c.on_step.new.self y c.step_words-told.result
    c.on_step.result
    h.0 h.1 c.requires.ties stores c.step_words-told.ensures.steps c.on_step.ensures.does ((c.on_step.ensures.keeps (laid_in t)).running
    (running_moved (laid_in t) p y c.step_words-told.ensures.fits (ap is_loading h.1.own_at) running))).0

pub returns-clause-leaves : goal.returns-clause-leaves
returns-clause-leaves g c =
    let r = c.args.actor.now in
    let p = c.request_store.new.self in
    let s = c.on_step.new.self in
    let h = is_asked c.args.table.now c.args.seat.now r p c.requires.due c.requires.ties c.in_ok-request_store.ensures.ok
    c.request_store.ensures.rest in
    subst (λ (z : TxActor g.row.V.Denot). KeepsFrom s.stage z.stage z.copies.items s.copies.items) c.request_store.ensures.rest
    (c.on_step.ensures.leaves (ap is_loading h.1.own_at))

pub returns-clause-made : goal.returns-clause-made
returns-clause-made g c =
    let p = c.request_store.new.self in
    let h = is_asked c.args.table.now c.args.seat.now c.args.actor.now p c.requires.due c.requires.ties c.in_ok-request_store.ensures.ok
    c.request_store.ensures.rest in
    c.on_step.ensures.made (records_ready p.stage h.0 h.1.own_at)
    ∙ ap (λ (z : TxActor g.row.V.Denot). z.calls.items) c.request_store.ensures.rest
