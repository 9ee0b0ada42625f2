use Rattle.tx_actor.proofs.OwnLemmas.{ask_keeps, may_call, starve_keeps, step_keeps}
use Rattle.tx_actor.proofs.turn_laws.events_keep_copies.Goals as goal

pub returns-clause-steps : goal.returns-clause-steps
returns-clause-steps g c =
    step_keeps c.copies_by_stage.ensures.steps c.copies_by_stage.ensures.begun c.copies_stay.ensures.events c.begins_with_nothing.ensures

pub returns-clause-starves : goal.returns-clause-starves
returns-clause-starves g c = starve_keeps c.copies_by_stage.ensures.steps c.copies_by_stage.ensures.begun c.copies_stay.ensures.events

pub returns-clause-asks : goal.returns-clause-asks
returns-clause-asks g c =
    let stays = c.copies_stay.ensures in
    ask_keeps stays.events stays.stays stays.joins c.copies_by_stage.ensures.asked c.copies_by_stage.ensures.all
    (may_call c.calls_as_worlds.ensures)
