use Rattle.std.proofs.Common.{◌∷◌, ◌++◌, [], ap, subst, sym, ◌∙◌, length}
use Rattle.tx_actor.proofs.NameLemmas.{named_try}
use Rattle.tx_actor.proofs.StepLemmas.{quiet_try}
use Rattle.tx_actor.specs.Running.{stage_of}
use Rattle.shared_table.specs.Seated.{blocks_in}
use Rattle.tx_turns.specs.Ties.{laid_in}
use Rattle.tx_turns.specs.Own.{HasOwn}
use Rattle.tx_turns.proofs.GateLemmas.{try_due, try_lost, try_won}
use Rattle.tx_turns.proofs.gates.try_gate.Goals as goal

pub take_gate-requires-clause-own : goal.take_gate-requires-clause-own
take_gate-requires-clause-own g c = c.requires.ties.owns

pub take_gate-requires-clause-live : goal.take_gate-requires-clause-live
take_gate-requires-clause-live g c = c.requires.ties.live

pub take_gate-requires-clause-collection : goal.take_gate-requires-clause-collection
take_gate-requires-clause-collection g c =
    named_try c.args.actor.now.stage c.args.k (length (blocks_in c.args.table.now)) c.requires.due c.requires.ties.running.names

pub take_gate-requires-clause-due : goal.take_gate-requires-clause-due
take_gate-requires-clause-due g c =
    try_due c.steps_as_worlds.ensures c.args.table.now c.args.seat.now c.args.actor.now c.args.k c.requires.due c.requires.ties

pub wait-requires : goal.wait-requires
wait-requires g c =
    named_try c.args.actor.now.stage c.args.k (length (blocks_in c.args.table.now)) c.requires.due c.requires.ties.running.names

pub returns-in-Some-clause-turned : goal.returns-in-Some-clause-turned
returns-in-Some-clause-turned g c =
    let r = c.args.actor.now in
    (try_won c.steps_as_worlds.ensures c.events_keep_copies.ensures.steps c.copies_by_stage.ensures.others c.args.table.now c.args.seat.now
    c.take_gate.new.seat r c.on_gate_tried.new.self c.on_gate_tried.result c.args.k c.args.bases.now.items c.in-Some.base c.requires.due
    c.requires.ties c.requires.own c.in-Some.ensures.0 c.in-Some.ensures.1 c.on_gate_tried.ensures.does
    ((c.on_gate_tried.ensures.keeps (laid_in c.args.table.now)).running c.requires.ties.running)
    (c.on_gate_tried.ensures.leaves (quiet_try (stage_of r.stage) c.args.k c.requires.due))).1

pub returns-in-Some-clause-ties : goal.returns-in-Some-clause-ties
returns-in-Some-clause-ties g c =
    let r = c.args.actor.now in
    (try_won c.steps_as_worlds.ensures c.events_keep_copies.ensures.steps c.copies_by_stage.ensures.others c.args.table.now c.args.seat.now
    c.take_gate.new.seat r c.on_gate_tried.new.self c.on_gate_tried.result c.args.k c.args.bases.now.items c.in-Some.base c.requires.due
    c.requires.ties c.requires.own c.in-Some.ensures.0 c.in-Some.ensures.1 c.on_gate_tried.ensures.does
    ((c.on_gate_tried.ensures.keeps (laid_in c.args.table.now)).running c.requires.ties.running)
    (c.on_gate_tried.ensures.leaves (quiet_try (stage_of r.stage) c.args.k c.requires.due))).0

pub returns-in-Some-clause-own : goal.returns-in-Some-clause-own
returns-in-Some-clause-own g c =
    let r = c.args.actor.now in
    let b = c.in-Some.base in
    subst (λ bs. HasOwn c.args.table.now c.take_gate.new.seat c.on_gate_tried.new.self bs)
    (sym (c.push_reserved.ensures.items ∙ ap (λ bs. bs ++ b ∷ []) c.reserve.ensures.items))
    ((try_won c.steps_as_worlds.ensures c.events_keep_copies.ensures.steps c.copies_by_stage.ensures.others c.args.table.now c.args.seat.now
    c.take_gate.new.seat r c.on_gate_tried.new.self c.on_gate_tried.result c.args.k c.args.bases.now.items b c.requires.due
    c.requires.ties c.requires.own c.in-Some.ensures.0 c.in-Some.ensures.1 c.on_gate_tried.ensures.does
    ((c.on_gate_tried.ensures.keeps (laid_in c.args.table.now)).running c.requires.ties.running)
    (c.on_gate_tried.ensures.leaves (quiet_try (stage_of r.stage) c.args.k c.requires.due))).2)

pub returns-in-None-clause-turned : goal.returns-in-None-clause-turned
returns-in-None-clause-turned g c =
    let r = c.args.actor.now in
    let h = c.on_gate_tried-in-None in
    (try_lost c.steps_as_worlds.ensures c.events_keep_copies.ensures.steps c.copies_by_stage.ensures.others c.args.table.now c.args.seat.now
    c.take_gate.new.seat r h.new.self h.result c.args.k c.args.bases.now.items c.requires.due c.requires.ties c.requires.own
    c.in-None.ensures
    h.ensures.does ((h.ensures.keeps (laid_in c.args.table.now)).running c.requires.ties.running)
    (h.ensures.leaves (quiet_try (stage_of r.stage) c.args.k c.requires.due))).1

pub returns-in-None-clause-ties : goal.returns-in-None-clause-ties
returns-in-None-clause-ties g c =
    let r = c.args.actor.now in
    let h = c.on_gate_tried-in-None in
    (try_lost c.steps_as_worlds.ensures c.events_keep_copies.ensures.steps c.copies_by_stage.ensures.others c.args.table.now c.args.seat.now
    c.take_gate.new.seat r h.new.self h.result c.args.k c.args.bases.now.items c.requires.due c.requires.ties c.requires.own
    c.in-None.ensures
    h.ensures.does ((h.ensures.keeps (laid_in c.args.table.now)).running c.requires.ties.running)
    (h.ensures.leaves (quiet_try (stage_of r.stage) c.args.k c.requires.due))).0

pub returns-in-None-clause-own : goal.returns-in-None-clause-own
returns-in-None-clause-own g c =
    let r = c.args.actor.now in
    let h = c.on_gate_tried-in-None in
    subst (λ bs. HasOwn c.args.table.now c.take_gate.new.seat h.new.self bs) (sym c.reserve.ensures.items)
    ((try_lost c.steps_as_worlds.ensures c.events_keep_copies.ensures.steps c.copies_by_stage.ensures.others c.args.table.now
    c.args.seat.now
    c.take_gate.new.seat r h.new.self h.result c.args.k c.args.bases.now.items c.requires.due c.requires.ties c.requires.own
    c.in-None.ensures
    h.ensures.does ((h.ensures.keeps (laid_in c.args.table.now)).running c.requires.ties.running)
    (h.ensures.leaves (quiet_try (stage_of r.stage) c.args.k c.requires.due))).2)

pub returns-in_default-clause-own : goal.returns-in_default-clause-own
returns-in_default-clause-own g c =
    subst (λ bs. HasOwn c.args.table.now c.args.seat.now c.args.actor.now bs) (sym c.reserve.ensures.items) c.requires.own
