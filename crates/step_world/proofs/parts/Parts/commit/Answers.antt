use Rattle.std.proofs.Common.{◌∙◌, ◌+◌, ℕ, refl, subst, sym}
use Rattle.std.proofs.lemmas.Option.{slice_get_read}
use Rattle.seq_model.specs.Runs.{IsInCommitOrder}
use Rattle.seq_model.specs.declared.event.Event.TheVariants.{Step}
use Rattle.step_core.proofs.Lists.{same_at}
use Rattle.step_world.proofs.PartsLemmas.{committing_ends, committing_record, happens_then, more_records, starved_then, stays_by}
use Rattle.step_world.proofs.PartsLemmas.{stays_then, step_happens, with_turn}
use Rattle.step_world.proofs.PrepareLemmas.{has_room_made, room_made}
use Rattle.step_world.proofs.RoomLemmas.{room_first}
use Rattle.step_world.proofs.TraceLemmas.{serial_at}
use Rattle.step_world.proofs.WorldLemmas.{may_take, shape_laid}
use Rattle.step_world.proofs.OwnTurnLemmas.{keeps_step}
use Rattle.tx_actor.proofs.OwnLemmas.{calm_at, refused_store}
use Rattle.tx_actor.specs.ActorBounds.{NamesAmong}
use Rattle.tx_actor.specs.Running.{stage_of}
use Rattle.tx_actor.specs.declared.actor.TxActor.{TxActor}
use Rattle.step_world.specs.Homes.{HasRoomDue, HasRoomLeft}
use Rattle.actor_parts.specs.declared.next.Next.TheVariants as next
use Rattle.tx_actor.proofs.StepLemmas.{quiet_first}
use Rattle.step_world.proofs.parts.Parts.commit.Goals as goal

pub commit-requires-clause-running : goal.commit-requires-clause-running
commit-requires-clause-running g c =
    let got = slice_get_read c.args.self.now.actors.items _ c.args.i c.index_mut.result.now refl c.requires.inside
    c.index_mut.ensures.value in
    (c.requires.world.parts.seats c.args.i c.index_mut.result.now got).running

pub commit-requires-clause-shape : goal.commit-requires-clause-shape
commit-requires-clause-shape g c =
    let p = c.args.self.now in
    let w = c.requires.world in
    shape_laid (room_made p c.reserve.new.self c.prepare.new.table) w.world
    (has_room_made p c.reserve.new.self c.prepare.new.table c.reserve.ensures.items c.prepare.ensures.alike c.prepare.ensures.rest
    w.opening w.world w.reached w.parts)

pub commit-requires-clause-clock : goal.commit-requires-clause-clock
commit-requires-clause-clock g c =
    let p = c.args.self.now in
    let w = c.requires.world in
    let got = slice_get_read p.actors.items _ c.args.i c.index_mut.result.now refl c.requires.inside c.index_mut.ensures.value in
    may_take (room_made p c.reserve.new.self c.prepare.new.table) w.world c.args.i c.index_mut.result.now
    (has_room_made p c.reserve.new.self c.prepare.new.table c.reserve.ensures.items c.prepare.ensures.alike c.prepare.ensures.rest
    w.opening w.world w.reached w.parts) got

pub commit-requires-clause-due : goal.commit-requires-clause-due
commit-requires-clause-due g c =
    let got = slice_get_read c.args.self.now.actors.items _ c.args.i c.index_mut.result.now refl c.requires.inside
    c.index_mut.ensures.value in
    c.requires.due c.index_mut.result.now got

pub insert_record-requires : goal.insert_record-requires
insert_record-requires g c =
    let w = c.requires.world in
    subst IsInCommitOrder (sym (c.reserve.ensures.items ∙ w.parts.records))
    (serial_at c.serial_worlds.ensures.serial w.opening w.world w.reached).ordered

pub prepare-requires : goal.prepare-requires
prepare-requires g c =
    let p = c.args.self.now in
    let w = c.requires.world in
    let r = c.index.result.now in
    let got = slice_get_read p.actors.items _ c.args.i r refl c.requires.inside c.index.ensures in
    subst (λ (n : ℕ). NamesAmong n r.stage) (sym (shape_laid p w.world w.parts).bases) (w.parts.seats c.args.i r got).running.names

pub returns-in_default-clause-err : goal.returns-in_default-clause-err
returns-in_default-clause-err g c =
    let p = c.args.self.now in
    starved_then p (record p { records = c.reserve.new.self }) c.starved.new.self c.args.i
    (more_records p c.reserve.new.self c.reserve.ensures.items) c.starved.ensures

pub returns-in_default-prepare-clause-err : goal.returns-in_default-prepare-clause-err
returns-in_default-prepare-clause-err g c =
    let p = c.args.self.now in
    starved_then p (room_made p c.reserve.new.self c.prepare.new.table) c.starved-in_default-prepare.new.self c.args.i
    (has_room_made p c.reserve.new.self c.prepare.new.table c.reserve.ensures.items c.prepare.ensures.alike c.prepare.ensures.rest)
    c.starved-in_default-prepare.ensures

pub returns-in_ok-insert_record-in-Ok-commit-clause-ok : goal.returns-in_ok-insert_record-in-Ok-commit-clause-ok
returns-in_ok-insert_record-in-Ok-commit-clause-ok g c =
    let t = c.commit in
    let m = c.in-Ok-commit in
    let p = c.args.self.now in
    let q = room_made p c.reserve.new.self c.prepare.new.table in
    let r = c.index_mut.result.now in
    let got = slice_get_read p.actors.items _ c.args.i r refl c.requires.inside c.index_mut.ensures.value in
    let due = c.requires.due r got in
    let d = record (with_turn q t.new.table c.args.i t.new.actor) { records = c.insert_record.new.records } in
    let same = same_at p.actors.items c.args.i c.index.result.now r
    (slice_get_read p.actors.items _ c.args.i c.index.result.now refl c.requires.inside c.index.ensures) got in
    happens_then p q d (Step (c.args.i + 1)) m.told
    (has_room_made p c.reserve.new.self c.prepare.new.table c.reserve.ensures.items c.prepare.ensures.alike c.prepare.ensures.rest)
    (step_happens q d c.args.i r t.new.actor m.told got refl refl (m.ensures.turns p.blocks _)
    (keeps_step c.copies_by_stage.ensures.steps c.copies_by_stage.ensures.begun c.copies_stay.ensures.events c.begins_with_nothing.ensures
    c.copies_stay.ensures.others c.copies_by_stage.ensures.others
    p.blocks _ _ r t.new.actor (quiet_first (stage_of r.stage) due)
    (λ asked. calm_at (stage_of r.stage) next.FirstStore due (λ k q. let z : ⊥ = cc in z) asked) m.ensures.leaves)
    (room_first _ q.table t.new.table r t.new.actor t.ensures.bases due m.ensures.leaves
    (subst (λ (z : TxActor g.row.V.Denot). HasRoomDue q.table z.copies.items z.stage) same c.in-Ok-prepare.ensures.room))
    t.ensures.shape (λ _. t.ensures.running) t.ensures.grows
    (λ x is. c.in_ok-insert_record-in-Ok-commit.ensures.ok
    ∙ committing_record _ r m.record q.records.items due m.ensures.number m.ensures.writes m.ensures.calls x is)
    (λ x is. committing_ends _ r _ due x is))

pub returns-in-Err-clause-err : goal.returns-in-Err-clause-err
returns-in-Err-clause-err g c =
    let t = c.commit in
    let p = c.args.self.now in
    let q = room_made p c.reserve.new.self c.prepare.new.table in
    let r = c.index_mut.result.now in
    let got = slice_get_read p.actors.items _ c.args.i r refl c.requires.inside c.index_mut.ensures.value in
    starved_then p (with_turn q t.new.table c.args.i t.new.actor) c.starved-in-Err.new.self c.args.i
    (stays_then p q (with_turn q t.new.table c.args.i t.new.actor)
    (has_room_made p c.reserve.new.self c.prepare.new.table c.reserve.ensures.items c.prepare.ensures.alike c.prepare.ensures.rest)
    (stays_by q t.new.table c.args.i r t.new.actor got c.in-Err.ensures.table c.in-Err.ensures.stands
    (λ w laid. refused_store c.copies_by_stage.ensures.steps r t.new.actor (c.requires.due r got) c.in-Err.ensures.rest w _)
    (λ o w reached runs there h. subst (λ (z : TxActor g.row.V.Denot). HasRoomLeft q.table z) (sym c.in-Err.ensures.rest) h)
    (λ _. t.ensures.running) t.ensures.grows))
    c.starved-in-Err.ensures
