use Rattle.std.proofs.Common.{length}
use Rattle.tx_actor.proofs.NameLemmas.{named_put}
use Rattle.tx_actor.proofs.StepLemmas.{quiet_put}
use Rattle.tx_actor.specs.Running.{stage_of}
use Rattle.shared_table.specs.Seated.{actor, acts, blocks_in, opening_of}
use Rattle.tx_turns.specs.Ties.{laid_in}
use Rattle.tx_turns.proofs.GateLemmas.{first_out, held_base, may_put, put_due, put_first, put_tied, some_held}
use Rattle.tx_turns.proofs.gates.put_gate.Goals as goal

pub first-base-requires : goal.first-base-requires
first-base-requires g c =
    let t = c.args.table.now in
    let s = c.args.seat.now in
    let r = c.args.actor.now in
    let ks = put_first r.stage c.args.k (acts (opening_of t) s) (actor s) c.requires.due in
    some_held t s r c.args.k ks.0 c.args.bases.now.items ks.1 c.requires.own

pub put_gate-requires-clause-own : goal.put_gate-requires-clause-own
put_gate-requires-clause-own g c = c.requires.ties.owns

pub put_gate-requires-clause-live : goal.put_gate-requires-clause-live
put_gate-requires-clause-live g c = c.requires.ties.live

pub put_gate-requires-clause-collection : goal.put_gate-requires-clause-collection
put_gate-requires-clause-collection g c =
    named_put c.args.actor.now.stage c.args.k (length (blocks_in c.args.table.now)) c.requires.due c.requires.ties.running.names

pub put_gate-requires-clause-held : goal.put_gate-requires-clause-held
put_gate-requires-clause-held g c =
    let t = c.args.table.now in
    let s = c.args.seat.now in
    let r = c.args.actor.now in
    let ks = put_first r.stage c.args.k (acts (opening_of t) s) (actor s) c.requires.due in
    (first_out s r c.args.k ks.0 c.requires.own.out ks.1).0

pub put_gate-requires-clause-due : goal.put_gate-requires-clause-due
put_gate-requires-clause-due g c =
    let t = c.args.table.now in
    let s = c.args.seat.now in
    let r = c.args.actor.now in
    let ks = put_first r.stage c.args.k (acts (opening_of t) s) (actor s) c.requires.due in
    may_put t s r c.args.k c.first-base.result c.requires.ties
    (put_due c.steps_as_worlds.ensures t s r c.args.k c.requires.due c.requires.ties)
    (held_base t s r c.args.k ks.0 c.args.bases.now.items c.first-base.new.bases.items c.first-base.result ks.1 c.requires.own
    c.first-base.ensures).0

pub returns-clause-turned : goal.returns-clause-turned
returns-clause-turned g c =
    let r = c.args.actor.now in
    let h = c.on_gate_put in
    (put_tied c.steps_as_worlds.ensures c.events_keep_copies.ensures.steps c.copies_by_stage.ensures.others c.args.table.now c.args.seat.now
    c.put_gate.new.seat r h.new.self h.result c.args.k c.args.bases.now.items c.first-base.new.bases.items c.first-base.result
    c.requires.due
    c.requires.ties c.requires.own c.first-base.ensures c.put_gate.ensures h.ensures.does
    ((h.ensures.keeps (laid_in c.args.table.now)).running c.requires.ties.running)
    (h.ensures.leaves (quiet_put (stage_of r.stage) c.args.k c.requires.due))).1

pub returns-clause-ties : goal.returns-clause-ties
returns-clause-ties g c =
    let r = c.args.actor.now in
    let h = c.on_gate_put in
    (put_tied c.steps_as_worlds.ensures c.events_keep_copies.ensures.steps c.copies_by_stage.ensures.others c.args.table.now c.args.seat.now
    c.put_gate.new.seat r h.new.self h.result c.args.k c.args.bases.now.items c.first-base.new.bases.items c.first-base.result
    c.requires.due
    c.requires.ties c.requires.own c.first-base.ensures c.put_gate.ensures h.ensures.does
    ((h.ensures.keeps (laid_in c.args.table.now)).running c.requires.ties.running)
    (h.ensures.leaves (quiet_put (stage_of r.stage) c.args.k c.requires.due))).0

pub returns-clause-own : goal.returns-clause-own
returns-clause-own g c =
    let r = c.args.actor.now in
    let h = c.on_gate_put in
    (put_tied c.steps_as_worlds.ensures c.events_keep_copies.ensures.steps c.copies_by_stage.ensures.others c.args.table.now c.args.seat.now
    c.put_gate.new.seat r h.new.self h.result c.args.k c.args.bases.now.items c.first-base.new.bases.items c.first-base.result
    c.requires.due
    c.requires.ties c.requires.own c.first-base.ensures c.put_gate.ensures h.ensures.does
    ((h.ensures.keeps (laid_in c.args.table.now)).running c.requires.ties.running)
    (h.ensures.leaves (quiet_put (stage_of r.stage) c.args.k c.requires.due))).2
