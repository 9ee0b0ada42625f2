use Rattle.std.proofs.Common.{◌≡◌, ℕ, List, refl, sym, ap, subst, length}
use Rattle.replay_log.specs.declared.base.Base.{Base}
use Rattle.actor_parts.specs.declared.next.Next.TheVariants as next
use Rattle.tx_actor.specs.Running.{at}
use Rattle.tx_actor.specs.declared.actor.CollectionCall.{CollectionCall}
use Rattle.tx_actor.specs.declared.actor.Stage.TheVariants as stage
use Rattle.tx_actor.proofs.NameLemmas.{named_try}
use Rattle.shared_table.specs.Seated.{blocks_in}
use Rattle.tx_turns.specs.Ties.{laid_in}
use Rattle.tx_turns.specs.Straight.{HasDriven}
use Rattle.tx_turns.proofs.GateLemmas.{try_due}
use Rattle.tx_turns.proofs.KeyLemmas.{driven_then, gate_lost, gate_won, if_ok, on_err, stopped_then}
use Rattle.tx_turns.proofs.keys.gate_key.Goals as goal

pub take_gate-requires-clause-own : goal.take_gate-requires-clause-own
take_gate-requires-clause-own g c = c.requires.ties.owns

pub take_gate-requires-clause-live : goal.take_gate-requires-clause-live
take_gate-requires-clause-live g c = c.requires.ties.live

pub take_gate-requires-clause-collection : goal.take_gate-requires-clause-collection
take_gate-requires-clause-collection g c =
    let t = c.args.table.now in
    let p = c.args.actor.now in
    let asked = c.args.asked in
    let r = at p (stage.Trying asked c.args.tries) in
    let k = c.get.result.now.collection in
    let same : k ≡ asked.collection = ap (λ (a : CollectionCall g.row.V.Denot). a.collection) c.get.ensures in
    let due = ap (λ (j : ℕ). next.TryGate j) (sym same) in
    named_try r.stage k (length (blocks_in t)) due c.requires.ties.running.names

pub take_gate-requires-clause-due : goal.take_gate-requires-clause-due
take_gate-requires-clause-due g c =
    let t = c.args.table.now in
    let s = c.args.seat.now in
    let p = c.args.actor.now in
    let asked = c.args.asked in
    let r = at p (stage.Trying asked c.args.tries) in
    let k = c.get.result.now.collection in
    let same : k ≡ asked.collection = ap (λ (a : CollectionCall g.row.V.Denot). a.collection) c.get.ensures in
    let due = ap (λ (j : ℕ). next.TryGate j) (sym same) in
    try_due c.steps_as_worlds.ensures t s r k due c.requires.ties

pub wait-requires : goal.wait-requires
wait-requires g c =
    let t = c.args.table.now in
    let p = c.args.actor.now in
    let asked = c.args.asked in
    let r = at p (stage.Trying asked c.args.tries) in
    let k = c.get.result.now.collection in
    let same : k ≡ asked.collection = ap (λ (a : CollectionCall g.row.V.Denot). a.collection) c.get.ensures in
    let due = ap (λ (j : ℕ). next.TryGate j) (sym same) in
    named_try r.stage k (length (blocks_in t)) due c.requires.ties.running.names

pub take_key-requires-clause-ties : goal.take_key-requires-clause-ties
take_key-requires-clause-ties g c =
    let t = c.args.table.now in
    let s = c.args.seat.now in
    let p = c.args.actor.now in
    let asked = c.args.asked in
    let k = c.get.result.now.collection in
    let same : k ≡ asked.collection = ap (λ (a : CollectionCall g.row.V.Denot). a.collection) c.get.ensures in
    let won = gate_won c.free_gates_are_held.ensures c.steps_as_worlds.ensures c.events_keep_copies.ensures.steps
    c.copies_by_stage.ensures.others
    t s c.take_gate.new.seat p asked c.args.tries k c.in-Some.base same c.requires.ties c.requires.own c.in-Some.ensures.0
    c.in-Some.ensures.1 in
    won.ties

pub take_key-requires-clause-own : goal.take_key-requires-clause-own
take_key-requires-clause-own g c =
    let t = c.args.table.now in
    let s = c.args.seat.now in
    let p = c.args.actor.now in
    let asked = c.args.asked in
    let k = c.get.result.now.collection in
    let same : k ≡ asked.collection = ap (λ (a : CollectionCall g.row.V.Denot). a.collection) c.get.ensures in
    let won = gate_won c.free_gates_are_held.ensures c.steps_as_worlds.ensures c.events_keep_copies.ensures.steps
    c.copies_by_stage.ensures.others
    t s c.take_gate.new.seat p asked c.args.tries k c.in-Some.base same c.requires.ties c.requires.own c.in-Some.ensures.0
    c.in-Some.ensures.1 in
    won.own

pub returns-in-None-clause-led : goal.returns-in-None-clause-led
returns-in-None-clause-led g c =
    let t = c.args.table.now in
    let s = c.args.seat.now in
    let p = c.args.actor.now in
    let asked = c.args.asked in
    let k = c.get.result.now.collection in
    let same : k ≡ asked.collection = ap (λ (a : CollectionCall g.row.V.Denot). a.collection) c.get.ensures in
    subst (λ (bs : List (Base g.row.V.Denot)). HasDriven t s c.take_gate.new.seat c.on_gate_tried.new.self c.on_gate_tried.result bs)
    (sym c.requires.none)
    (gate_lost c.steps_as_worlds.ensures c.events_keep_copies.ensures.steps c.copies_by_stage.ensures.others t s c.take_gate.new.seat p
    c.on_gate_tried.new.self c.on_gate_tried.result asked c.args.tries k same c.requires.ties c.requires.own c.in-None.ensures
    c.on_gate_tried.ensures.does (c.on_gate_tried.ensures.keeps (laid_in t)) (c.on_gate_tried.ensures.leaves refl))

pub returns-in-Some-clause-led : goal.returns-in-Some-clause-led
returns-in-Some-clause-led g c =
    let t = c.args.table.now in
    let s = c.args.seat.now in
    let p = c.args.actor.now in
    let asked = c.args.asked in
    let k = c.get.result.now.collection in
    let same : k ≡ asked.collection = ap (λ (a : CollectionCall g.row.V.Denot). a.collection) c.get.ensures in
    let won = gate_won c.free_gates_are_held.ensures c.steps_as_worlds.ensures c.events_keep_copies.ensures.steps
    c.copies_by_stage.ensures.others
    t s c.take_gate.new.seat p asked c.args.tries k c.in-Some.base same c.requires.ties c.requires.own c.in-Some.ensures.0
    c.in-Some.ensures.1 in
    if_ok c.take_key.result
    (λ n h. driven_then t s c.take_gate.new.seat c.take_key.new.seat c.take_key.new.actor n c.take_key.new.bases.items won.leads h)
    c.take_key.ensures.led

pub returns-in-Some-clause-stopped : goal.returns-in-Some-clause-stopped
returns-in-Some-clause-stopped g c =
    let t = c.args.table.now in
    let s = c.args.seat.now in
    let p = c.args.actor.now in
    let asked = c.args.asked in
    let k = c.get.result.now.collection in
    let same : k ≡ asked.collection = ap (λ (a : CollectionCall g.row.V.Denot). a.collection) c.get.ensures in
    let won = gate_won c.free_gates_are_held.ensures c.steps_as_worlds.ensures c.events_keep_copies.ensures.steps
    c.copies_by_stage.ensures.others
    t s c.take_gate.new.seat p asked c.args.tries k c.in-Some.base same c.requires.ties c.requires.own c.in-Some.ensures.0
    c.in-Some.ensures.1 in
    on_err c.take_key.result
    (λ h. stopped_then t s c.take_gate.new.seat c.take_key.new.seat c.take_key.new.actor c.take_key.new.bases.items won.leads h)
    c.take_key.ensures.stopped
