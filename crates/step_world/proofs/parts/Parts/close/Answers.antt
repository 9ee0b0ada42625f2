use Rattle.std.proofs.Common.{◌∙◌, ◌+◌, ap, refl, subst, sym}
use Rattle.std.proofs.lemmas.Option.{slice_get_read}
use Rattle.seq_model.specs.Runs.{IsInCommitOrder, insert_record}
use Rattle.step_world.proofs.PartsLemmas.{closing_ends, closing_record, more_records, starved_then, step_happens, with_turn}
use Rattle.step_world.proofs.TraceLemmas.{serial_at}
use Rattle.step_world.proofs.WorldLemmas.{may_take, shape_laid}
use Rattle.step_world.proofs.OwnTurnLemmas.{keeps_step}
use Rattle.tx_actor.proofs.OwnLemmas.{calm_at}
use Rattle.step_world.proofs.RoomLemmas.{not_first, room_kept}
use Rattle.tx_actor.specs.Running.{stage_of}
use Rattle.actor_parts.specs.declared.next.Next.TheVariants as next
use Rattle.tx_actor.proofs.StepLemmas.{stage_due, stage_quiet}
use Rattle.tx_actor.specs.declared.actor.Stage.TheVariants as stage
use Rattle.step_world.proofs.parts.Parts.close.Goals as goal

pub close-told-requires-clause-running : goal.close-told-requires-clause-running
close-told-requires-clause-running g c =
    let got = slice_get_read c.args.self.now.actors.items _ c.args.i c.index_mut.result.now refl c.requires.inside
    c.index_mut.ensures.value in
    (c.requires.world.parts.seats c.args.i c.index_mut.result.now got).running

pub close-told-requires-clause-shape : goal.close-told-requires-clause-shape
close-told-requires-clause-shape g c = shape_laid c.args.self.now c.requires.world.world c.requires.world.parts

pub close-told-requires-clause-clock : goal.close-told-requires-clause-clock
close-told-requires-clause-clock g c =
    let got = slice_get_read c.args.self.now.actors.items _ c.args.i c.index_mut.result.now refl c.requires.inside
    c.index_mut.ensures.value in
    may_take c.args.self.now c.requires.world.world c.args.i c.index_mut.result.now c.requires.world.parts got

pub close-told-requires-clause-stage : goal.close-told-requires-clause-stage
close-told-requires-clause-stage g c =
    let got = slice_get_read c.args.self.now.actors.items _ c.args.i c.index_mut.result.now refl c.requires.inside
    c.index_mut.ensures.value in
    c.requires.stage c.index_mut.result.now got

pub insert_record-requires : goal.insert_record-requires
insert_record-requires g c =
    let w = c.requires.world in
    subst IsInCommitOrder (sym (c.reserve.ensures.items ∙ w.parts.records))
    (serial_at c.serial_worlds.ensures.serial w.opening w.world w.reached).ordered

pub returns-in_default-clause-err : goal.returns-in_default-clause-err
returns-in_default-clause-err g c =
    let p = c.args.self.now in
    starved_then p (record p { records = c.reserve.new.self }) c.starved.new.self c.args.i
    (more_records p c.reserve.new.self c.reserve.ensures.items) c.starved.ensures

pub returns-clause-ok : goal.returns-clause-ok
returns-clause-ok g c =
    let t = c.close-told in
    let p = c.args.self.now in
    let r = c.index_mut.result.now in
    let got = slice_get_read p.actors.items _ c.args.i r refl c.requires.inside c.index_mut.ensures.value in
    let at = c.requires.stage r got in
    step_happens p (record (with_turn p t.new.table c.args.i t.new.actor) { records = c.insert_record.new.records }) c.args.i r
    t.new.actor t.result.0 got refl refl (t.ensures.turns p.blocks _)
    (keeps_step c.copies_by_stage.ensures.steps c.copies_by_stage.ensures.begun c.copies_stay.ensures.events c.begins_with_nothing.ensures
    c.copies_stay.ensures.others c.copies_by_stage.ensures.others
    p.blocks _ p.table r t.new.actor (stage_quiet r stage.Closing at refl)
    (λ asked. calm_at (stage_of r.stage) next.Word (stage_due r stage.Closing at refl) (λ k q. let z : ⊥ = cc in z) asked) t.ensures.leaves)
    (room_kept _ p.table t.new.table r t.new.actor t.ensures.bases
    (not_first (stage_of r.stage) next.Word (stage_due r stage.Closing at refl) (λ e. let z : ⊥ = cc in z)) t.ensures.leaves)
    t.ensures.shape (λ _. t.ensures.running) t.ensures.grows
    (λ x is. c.in_ok-insert_record.ensures.ok
    ∙ (ap (λ rs. insert_record (c.args.i + 1, t.result.1) rs) c.reserve.ensures.items
    ∙ closing_record _ r t.result.1 p.records.items at t.ensures.number t.ensures.reads t.ensures.calls x is))
    (λ x is. closing_ends _ r _ at x is)
