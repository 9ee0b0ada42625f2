use Rattle.tx_turns.proofs.TurnLemmas.{word_is_due, word_is_next, word_turned}
use Rattle.tx_turns.specs.Ties.{laid_in}
use Rattle.tx_turns.proofs.words.step_word.Goals as goal
use Rattle.tx_actor.proofs.StepLemmas.{running_moved}

pub step_words-told-requires-clause-own : goal.step_words-told-requires-clause-own
step_words-told-requires-clause-own g c = c.requires.ties.owns

pub step_words-told-requires-clause-live : goal.step_words-told-requires-clause-live
step_words-told-requires-clause-live g c = c.requires.ties.live

pub step_words-told-requires-clause-fits : goal.step_words-told-requires-clause-fits
step_words-told-requires-clause-fits g c = c.requires.ties.running.fits

pub step_words-told-requires-clause-some : goal.step_words-told-requires-clause-some
step_words-told-requires-clause-some g c =
    word_is_due c.args.table.now c.args.seat.now c.args.actor.now c.requires.due c.requires.ties

pub step_words-told-requires-clause-due : goal.step_words-told-requires-clause-due
step_words-told-requires-clause-due g c =
    word_is_next c.args.table.now c.args.seat.now c.args.actor.now c.requires.due c.requires.ties

pub on_step-requires : goal.on_step-requires
on_step-requires g c = (running_moved (laid_in c.args.table.now) c.args.actor.now c.step_words-told.new.actor c.step_words-told.ensures.fits
    c.requires.word c.requires.ties.running).room

pub returns-clause-turned : goal.returns-clause-turned
returns-clause-turned g c =
    let t = c.args.table.now in
    let y = c.step_words-told.new.actor in
    (word_turned c.steps_as_worlds.ensures t c.args.seat.now c.step_words-told.new.seat c.args.actor.now c.on_step.new.self y
    c.step_words-told.result c.on_step.result c.requires.due c.requires.word c.requires.ties c.step_words-told.ensures.steps
    c.on_step.ensures.does ((c.on_step.ensures.keeps (laid_in t)).running
    (running_moved (laid_in t) c.args.actor.now y c.step_words-told.ensures.fits c.requires.word c.requires.ties.running))).1

pub returns-clause-ties : goal.returns-clause-ties
returns-clause-ties g c =
    let t = c.args.table.now in
    let y = c.step_words-told.new.actor in
    (word_turned c.steps_as_worlds.ensures t c.args.seat.now c.step_words-told.new.seat c.args.actor.now c.on_step.new.self y
    c.step_words-told.result c.on_step.result c.requires.due c.requires.word c.requires.ties c.step_words-told.ensures.steps
    c.on_step.ensures.does ((c.on_step.ensures.keeps (laid_in t)).running
    (running_moved (laid_in t) c.args.actor.now y c.step_words-told.ensures.fits c.requires.word c.requires.ties.running))).0

pub returns-clause-leaves : goal.returns-clause-leaves
returns-clause-leaves g c = c.on_step.ensures.leaves c.requires.word
