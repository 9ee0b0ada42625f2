use Rattle.tx_actor.proofs.LoadStepLemmas.{loads_word}
use Rattle.tx_turns.specs.Ties.{laid_in}
use Rattle.tx_turns.proofs.TurnLemmas.{word_is_due, word_is_next}
use Rattle.tx_turns.proofs.WordLemmas.{load_hears, load_tied}
use Rattle.tx_turns.proofs.loading.load_word.Goals as goal

pub step_words-told-requires-clause-own : goal.step_words-told-requires-clause-own
step_words-told-requires-clause-own g c = c.requires.ties.owns

pub step_words-told-requires-clause-live : goal.step_words-told-requires-clause-live
step_words-told-requires-clause-live g c = c.requires.ties.live

pub step_words-told-requires-clause-fits : goal.step_words-told-requires-clause-fits
step_words-told-requires-clause-fits g c = c.requires.ties.running.fits

pub step_words-told-requires-clause-some : goal.step_words-told-requires-clause-some
step_words-told-requires-clause-some g c =
    let r = c.args.actor.now in
    word_is_due c.args.table.now c.args.seat.now r (loads_word r r.stage c.requires.loading c.requires.ties.running.room) c.requires.ties

pub step_words-told-requires-clause-due : goal.step_words-told-requires-clause-due
step_words-told-requires-clause-due g c =
    let r = c.args.actor.now in
    word_is_next c.args.table.now c.args.seat.now r (loads_word r r.stage c.requires.loading c.requires.ties.running.room) c.requires.ties

pub on_load_step-requires : goal.on_load_step-requires
on_load_step-requires g c =
    let t = c.args.table.now in
    let s = c.args.seat.now in
    let r = c.args.actor.now in
    let e = c.step_words-told.ensures in
    let u = c.step_words-told.new.seat in
    let y = c.step_words-told.new.actor in
    let told = c.step_words-told.result in
    let ties = c.requires.ties in
    let heard = load_hears c.steps_as_worlds.ensures c.loads_keep_running.ensures t s u r y told c.requires.loading ties e.steps
    e.room e.fits in
    record { prepared = heard.0 }

pub returns-clause-turned : goal.returns-clause-turned
returns-clause-turned g c =
    let t = c.args.table.now in
    let s = c.args.seat.now in
    let r = c.args.actor.now in
    let e = c.step_words-told.ensures in
    let u = c.step_words-told.new.seat in
    let y = c.step_words-told.new.actor in
    let told = c.step_words-told.result in
    let ties = c.requires.ties in
    let heard = load_hears c.steps_as_worlds.ensures c.loads_keep_running.ensures t s u r y told c.requires.loading ties e.steps
    e.room e.fits in
    (load_tied c.steps_as_worlds.ensures c.loads_as_worlds.ensures.heard c.seats_as_actors.ensures c.loads_stay_own.ensures
    c.copies_by_stage.ensures.others t s u r c.on_load_step.new.self y told c.on_load_step.result c.args.bases.now c.requires.loading ties
    c.requires.own e.steps c.on_load_step.ensures.does ((c.on_load_step.ensures.keeps (laid_in t)).running heard.1)
    c.on_load_step.ensures.goes).1

pub returns-clause-ties : goal.returns-clause-ties
returns-clause-ties g c =
    let t = c.args.table.now in
    let s = c.args.seat.now in
    let r = c.args.actor.now in
    let e = c.step_words-told.ensures in
    let u = c.step_words-told.new.seat in
    let y = c.step_words-told.new.actor in
    let told = c.step_words-told.result in
    let ties = c.requires.ties in
    let heard = load_hears c.steps_as_worlds.ensures c.loads_keep_running.ensures t s u r y told c.requires.loading ties e.steps
    e.room e.fits in
    (load_tied c.steps_as_worlds.ensures c.loads_as_worlds.ensures.heard c.seats_as_actors.ensures c.loads_stay_own.ensures
    c.copies_by_stage.ensures.others t s u r c.on_load_step.new.self y told c.on_load_step.result c.args.bases.now c.requires.loading ties
    c.requires.own e.steps c.on_load_step.ensures.does ((c.on_load_step.ensures.keeps (laid_in t)).running heard.1)
    c.on_load_step.ensures.goes).0

pub returns-clause-own : goal.returns-clause-own
returns-clause-own g c =
    let t = c.args.table.now in
    let s = c.args.seat.now in
    let r = c.args.actor.now in
    let e = c.step_words-told.ensures in
    let u = c.step_words-told.new.seat in
    let y = c.step_words-told.new.actor in
    let told = c.step_words-told.result in
    let ties = c.requires.ties in
    let heard = load_hears c.steps_as_worlds.ensures c.loads_keep_running.ensures t s u r y told c.requires.loading ties e.steps
    e.room e.fits in
    (load_tied c.steps_as_worlds.ensures c.loads_as_worlds.ensures.heard c.seats_as_actors.ensures c.loads_stay_own.ensures
    c.copies_by_stage.ensures.others t s u r c.on_load_step.new.self y told c.on_load_step.result c.args.bases.now c.requires.loading ties
    c.requires.own e.steps c.on_load_step.ensures.does ((c.on_load_step.ensures.keeps (laid_in t)).running heard.1)
    c.on_load_step.ensures.goes).2
