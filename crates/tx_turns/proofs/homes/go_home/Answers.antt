use Rattle.std.proofs.Common.{◌≡◌, ◌<◌, ◌^◌, All, ap, length, refl, slice_index, subst, sym, ◌∙◌}
use Rattle.replay_log.specs.declared.base.Base.{Base}
use Rattle.replay_log.specs.Base.{IsPreparedFor, after, editions_of, locations_of, shown_of, stripes_of}
use Rattle.replay_log.specs.Log.{AreRaised}
use Rattle.std.specs.declared.alloc.Global.{Global}
use Rattle.std.specs.declared.vec.Vec.{Vec}
use Rattle.actor_parts.specs.declared.copies.CopyOfCollection.{CopyOfCollection}
use Rattle.actor_parts.specs.CopyList.{copy_of}
use Rattle.actor_parts.specs.Logs.{changes_had, locations_had}
use Rattle.actor_parts.specs.Dispatch.{is_loading}
use Rattle.tx_actor.proofs.HomeLemmas.{quiet_home, recorded_home}
use Rattle.tx_actor.proofs.NameLemmas.{named_home}
use Rattle.tx_actor.specs.CopiesByStage.{KeepsFrom}
use Rattle.tx_actor.specs.Running.{stage_of}
use Rattle.tx_actor.specs.declared.actor.Stage.{Stage}
use Rattle.tx_actor.specs.declared.actor.TxActor.{TxActor}
use Rattle.shared_table.specs.Seated.{blocks_in}
use Rattle.tx_turns.specs.Ties.{laid_in}
use Rattle.tx_turns.proofs.GateLemmas.{first_out, some_held}
use Rattle.tx_turns.proofs.HomeLemmas.{home_base, home_below, home_gates, home_may, home_tied, home_within}
use Rattle.tx_turns.proofs.homes.go_home.Goals as goal

pub first-base-requires : goal.first-base-requires
first-base-requires g c =
    let r = c.args.actor.now in
    let ks = home_gates r.stage c.args.k c.requires.due in
    some_held c.args.table.now c.args.seat.now r c.args.k ks.0 c.args.bases.now.items ks.1 c.requires.own

pub folds-requires-clause-prepared : goal.folds-requires-clause-prepared
folds-requires-clause-prepared g c =
    let had = copy_of c.args.actor.now.copies.items c.args.k in
    subst (λ (d : Base g.row.V.Denot). IsPreparedFor (changes_had had) d) (sym c.get_mut.ensures.value)
    (home_base c.args.table.now c.args.seat.now c.args.actor.now c.args.k c.args.bases.now.items c.first-base.new.bases.items
    c.first-base.result c.requires.due c.requires.own c.first-base.ensures).1.0

pub folds-requires-clause-within : goal.folds-requires-clause-within
folds-requires-clause-within g c =
    let had = copy_of c.args.actor.now.copies.items c.args.k in
    subst (λ (d : Base g.row.V.Denot). All (λ location. location < locations_of (stripes_of d) (shown_of d)) (locations_had had))
    (sym c.get_mut.ensures.value)
    (home_within c.logs_as_worlds.ensures.log c.args.table.now c.args.seat.now c.args.actor.now c.args.k c.args.bases.now.items
    c.first-base.new.bases.items c.first-base.result c.requires.due c.requires.ties c.requires.own c.first-base.ensures
    c.logs_as_worlds.ensures.within c.copies_by_stage.ensures.others (locations_had had) refl)

pub folds-requires-clause-below : goal.folds-requires-clause-below
folds-requires-clause-below g c =
    let had = copy_of c.args.actor.now.copies.items c.args.k in
    subst (λ (d : Base g.row.V.Denot). All (λ location. slice_index (editions_of d) location < 2 ^ 63) (locations_had had))
    (sym c.get_mut.ensures.value)
    (home_below c.logs_as_worlds.ensures.log c.args.table.now c.args.seat.now c.args.actor.now c.args.k c.args.bases.now.items
    c.first-base.new.bases.items c.first-base.result c.requires.due c.requires.ties c.requires.own c.first-base.ensures
    c.logs_as_worlds.ensures.editions c.copies_by_stage.ensures.others (locations_had had) refl)

pub put_gate-requires-clause-own : goal.put_gate-requires-clause-own
put_gate-requires-clause-own g c = c.requires.ties.owns

pub put_gate-requires-clause-live : goal.put_gate-requires-clause-live
put_gate-requires-clause-live g c = c.requires.ties.live

pub put_gate-requires-clause-collection : goal.put_gate-requires-clause-collection
put_gate-requires-clause-collection g c =
    named_home c.args.actor.now.stage c.args.k (length (blocks_in c.args.table.now)) c.requires.due c.requires.ties.running.names

pub put_gate-requires-clause-held : goal.put_gate-requires-clause-held
put_gate-requires-clause-held g c =
    let r = c.args.actor.now in
    let ks = home_gates r.stage c.args.k c.requires.due in (first_out c.args.seat.now r c.args.k ks.0 c.requires.own.out ks.1).0

pub put_gate-requires-clause-due : goal.put_gate-requires-clause-due
put_gate-requires-clause-due g c =
    let had = copy_of c.args.actor.now.copies.items c.args.k in
    let e = c.folds.ensures in
    let same = c.get_mut.ensures.value in
    let shown = subst (λ (d : Base g.row.V.Denot).
    shown_of c.folds.new.base ≡ after (changes_had had) (shown_of d)) same e.shown in
    let stripes = subst (λ (d : Base g.row.V.Denot). stripes_of c.folds.new.base ≡ stripes_of d) same e.stripes in
    let editions = subst (λ (d : Base g.row.V.Denot).
    AreRaised (locations_had had) (editions_of d) (editions_of c.folds.new.base)) same e.editions in
    home_may c.logs_as_worlds.ensures.log c.args.table.now c.args.seat.now c.args.actor.now c.args.k c.args.bases.now.items
    c.first-base.new.bases.items c.first-base.result c.requires.due c.requires.ties c.requires.own c.first-base.ensures
    c.steps_as_worlds.ensures (changes_had had) (locations_had had) c.folds.new.base refl refl shown stripes editions

pub returns-clause-turned : goal.returns-clause-turned
returns-clause-turned g c =
    let t = c.args.table.now in
    let r = c.args.actor.now in
    let p = c.folds.new.self in
    let q = c.on_base_returned.new.self in
    let at : p.stage ≡ r.stage = ap (λ (z : TxActor g.row.V.Denot). z.stage) c.folds.ensures.rest in
    let copies = ap (λ (z : Vec (CopyOfCollection g.row.V.Denot) Global). z.items) c.on_base_returned.ensures.copies in
    let recorded = recorded_home r.stage c.args.k c.requires.due in
    let quiet = quiet_home (stage_of r.stage) c.args.k c.requires.due in
    let keep = subst (λ (g : Stage _). KeepsFrom q.stage g q.copies.items q.copies.items) at
    (subst (λ cs. KeepsFrom q.stage p.stage cs q.copies.items) (sym copies)
    (c.on_base_returned.ensures.leaves (ap (λ (g : Stage _). is_loading (stage_of g)) at ∙ quiet))) in
    (home_tied c.steps_as_worlds.ensures c.goes_on_as_worlds.ensures c.copies_stay.ensures.events c.copies_stay.ensures.stays
    c.copies_by_stage.ensures.others t c.args.seat.now c.put_gate.new.seat r p q c.on_base_returned.result c.args.k c.args.bases.now.items
    c.first-base.new.bases.items c.first-base.result c.requires.due c.requires.ties c.requires.own c.first-base.ensures c.put_gate.ensures
    (c.folds.ensures.stands recorded) at c.on_base_returned.ensures.does
    (λ j other. ap (λ z. copy_of z.items j) c.on_base_returned.ensures.copies ∙ c.folds.ensures.others j other) keep
    ((c.on_base_returned.ensures.keeps (laid_in t)).running
    ((c.folds.ensures.keeps recorded (laid_in t)).running c.requires.ties.running))).1

pub returns-clause-ties : goal.returns-clause-ties
returns-clause-ties g c =
    let t = c.args.table.now in
    let r = c.args.actor.now in
    let p = c.folds.new.self in
    let q = c.on_base_returned.new.self in
    let at : p.stage ≡ r.stage = ap (λ (z : TxActor g.row.V.Denot). z.stage) c.folds.ensures.rest in
    let copies = ap (λ (z : Vec (CopyOfCollection g.row.V.Denot) Global). z.items) c.on_base_returned.ensures.copies in
    let recorded = recorded_home r.stage c.args.k c.requires.due in
    let quiet = quiet_home (stage_of r.stage) c.args.k c.requires.due in
    let keep = subst (λ (g : Stage _). KeepsFrom q.stage g q.copies.items q.copies.items) at
    (subst (λ cs. KeepsFrom q.stage p.stage cs q.copies.items) (sym copies)
    (c.on_base_returned.ensures.leaves (ap (λ (g : Stage _). is_loading (stage_of g)) at ∙ quiet))) in
    (home_tied c.steps_as_worlds.ensures c.goes_on_as_worlds.ensures c.copies_stay.ensures.events c.copies_stay.ensures.stays
    c.copies_by_stage.ensures.others t c.args.seat.now c.put_gate.new.seat r p q c.on_base_returned.result c.args.k c.args.bases.now.items
    c.first-base.new.bases.items c.first-base.result c.requires.due c.requires.ties c.requires.own c.first-base.ensures c.put_gate.ensures
    (c.folds.ensures.stands recorded) at c.on_base_returned.ensures.does
    (λ j other. ap (λ z. copy_of z.items j) c.on_base_returned.ensures.copies ∙ c.folds.ensures.others j other) keep
    ((c.on_base_returned.ensures.keeps (laid_in t)).running
    ((c.folds.ensures.keeps recorded (laid_in t)).running c.requires.ties.running))).0

pub returns-clause-own : goal.returns-clause-own
returns-clause-own g c =
    let t = c.args.table.now in
    let r = c.args.actor.now in
    let p = c.folds.new.self in
    let q = c.on_base_returned.new.self in
    let at : p.stage ≡ r.stage = ap (λ (z : TxActor g.row.V.Denot). z.stage) c.folds.ensures.rest in
    let copies = ap (λ (z : Vec (CopyOfCollection g.row.V.Denot) Global). z.items) c.on_base_returned.ensures.copies in
    let recorded = recorded_home r.stage c.args.k c.requires.due in
    let quiet = quiet_home (stage_of r.stage) c.args.k c.requires.due in
    let keep = subst (λ (g : Stage _). KeepsFrom q.stage g q.copies.items q.copies.items) at
    (subst (λ cs. KeepsFrom q.stage p.stage cs q.copies.items) (sym copies)
    (c.on_base_returned.ensures.leaves (ap (λ (g : Stage _). is_loading (stage_of g)) at ∙ quiet))) in
    (home_tied c.steps_as_worlds.ensures c.goes_on_as_worlds.ensures c.copies_stay.ensures.events c.copies_stay.ensures.stays
    c.copies_by_stage.ensures.others t c.args.seat.now c.put_gate.new.seat r p q c.on_base_returned.result c.args.k c.args.bases.now.items
    c.first-base.new.bases.items c.first-base.result c.requires.due c.requires.ties c.requires.own c.first-base.ensures c.put_gate.ensures
    (c.folds.ensures.stands recorded) at c.on_base_returned.ensures.does
    (λ j other. ap (λ z. copy_of z.items j) c.on_base_returned.ensures.copies ∙ c.folds.ensures.others j other) keep
    ((c.on_base_returned.ensures.keeps (laid_in t)).running
    ((c.folds.ensures.keeps recorded (laid_in t)).running c.requires.ties.running))).2
