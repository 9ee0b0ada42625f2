use Rattle.std.proofs.Common.{◌∙◌, [], ◌∷◌, ◌++◌, ap, refl}
use Rattle.std.proofs.lemmas.Option.{slice_get_read}
use Rattle.step_world.proofs.PartsLemmas.{leaving_ends, leaving_record, more_aborted, starved_then, step_happens, with_turn}
use Rattle.step_world.proofs.WorldLemmas.{may_take, shape_laid}
use Rattle.step_world.proofs.OwnTurnLemmas.{keeps_step}
use Rattle.tx_actor.proofs.OwnLemmas.{calm_at}
use Rattle.step_world.proofs.RoomLemmas.{not_first, room_kept}
use Rattle.tx_actor.specs.Running.{stage_of}
use Rattle.actor_parts.specs.declared.next.Next.TheVariants as next
use Rattle.tx_actor.proofs.StepLemmas.{stage_due, stage_quiet}
use Rattle.tx_actor.specs.declared.actor.Stage.TheVariants as stage
use Rattle.step_world.proofs.parts.Parts.leave.Goals as goal

pub leave-told-requires-clause-running : goal.leave-told-requires-clause-running
leave-told-requires-clause-running g c =
    let got = slice_get_read c.args.self.now.actors.items _ c.args.i c.index_mut.result.now refl c.requires.inside
    c.index_mut.ensures.value in
    (c.requires.world.parts.seats c.args.i c.index_mut.result.now got).running

pub leave-told-requires-clause-shape : goal.leave-told-requires-clause-shape
leave-told-requires-clause-shape g c = shape_laid c.args.self.now c.requires.world.world c.requires.world.parts

pub leave-told-requires-clause-clock : goal.leave-told-requires-clause-clock
leave-told-requires-clause-clock g c =
    let got = slice_get_read c.args.self.now.actors.items _ c.args.i c.index_mut.result.now refl c.requires.inside
    c.index_mut.ensures.value in
    may_take c.args.self.now c.requires.world.world c.args.i c.index_mut.result.now c.requires.world.parts got

pub leave-told-requires-clause-stage : goal.leave-told-requires-clause-stage
leave-told-requires-clause-stage g c =
    let got = slice_get_read c.args.self.now.actors.items _ c.args.i c.index_mut.result.now refl c.requires.inside
    c.index_mut.ensures.value in
    c.requires.stage c.index_mut.result.now got

pub returns-in_default-clause-err : goal.returns-in_default-clause-err
returns-in_default-clause-err g c =
    let p = c.args.self.now in
    starved_then p (record p { aborted = c.reserve.new.self }) c.starved.new.self c.args.i
    (more_aborted p c.reserve.new.self c.reserve.ensures.items) c.starved.ensures

pub returns-clause-ok : goal.returns-clause-ok
returns-clause-ok g c =
    let t = c.leave-told in
    let p = c.args.self.now in
    let r = c.index_mut.result.now in
    let got = slice_get_read p.actors.items _ c.args.i r refl c.requires.inside c.index_mut.ensures.value in
    let at = c.requires.stage r got in
    step_happens p (record (with_turn p t.new.table c.args.i t.new.actor) { aborted = c.push_reserved.new.self }) c.args.i r
    t.new.actor t.result.0 got refl refl (t.ensures.turns p.blocks _)
    (keeps_step c.copies_by_stage.ensures.steps c.copies_by_stage.ensures.begun c.copies_stay.ensures.events c.begins_with_nothing.ensures
    c.copies_stay.ensures.others c.copies_by_stage.ensures.others
    p.blocks _ p.table r t.new.actor (stage_quiet r stage.Leaving at refl)
    (λ asked. calm_at (stage_of r.stage) next.Word (stage_due r stage.Leaving at refl) (λ k q. let z : ⊥ = cc in z) asked) t.ensures.leaves)
    (room_kept _ p.table t.new.table r t.new.actor t.ensures.bases
    (not_first (stage_of r.stage) next.Word (stage_due r stage.Leaving at refl) (λ e. let z : ⊥ = cc in z)) t.ensures.leaves)
    t.ensures.shape (λ _. t.ensures.running) t.ensures.grows
    (λ x is. leaving_record _ r p.records.items at x is)
    (λ x is. leaving_ends _ r t.result.1 p.aborted.items _ at t.ensures.actor t.ensures.rv t.ensures.calls t.ensures.cause
    (c.push_reserved.ensures.items ∙ ap (λ es. es ++ t.result.1 ∷ []) c.reserve.ensures.items) x is)
