use Rattle.std.proofs.Common.{refl}
use Rattle.std.proofs.lemmas.Option.{slice_get_read}
use Rattle.step_world.proofs.PartsLemmas.{none_at_word, passes}
use Rattle.step_world.proofs.WorldLemmas.{may_take, shape_laid}
use Rattle.step_world.proofs.OwnTurnLemmas.{keeps_step}
use Rattle.tx_actor.proofs.OwnLemmas.{calm_at}
use Rattle.step_world.proofs.RoomLemmas.{not_first, room_kept}
use Rattle.tx_actor.specs.Running.{stage_of}
use Rattle.actor_parts.specs.declared.next.Next.TheVariants as next
use Rattle.step_world.proofs.parts.Parts.move_on.Goals as goal

pub step_word-requires-clause-running : goal.step_word-requires-clause-running
step_word-requires-clause-running g c =
    let got = slice_get_read c.args.self.now.actors.items _ c.args.i c.index_mut.result.now refl c.requires.inside
    c.index_mut.ensures.value in
    (c.requires.world.parts.seats c.args.i c.index_mut.result.now got).running

pub step_word-requires-clause-shape : goal.step_word-requires-clause-shape
step_word-requires-clause-shape g c = shape_laid c.args.self.now c.requires.world.world c.requires.world.parts

pub step_word-requires-clause-clock : goal.step_word-requires-clause-clock
step_word-requires-clause-clock g c =
    let got = slice_get_read c.args.self.now.actors.items _ c.args.i c.index_mut.result.now refl c.requires.inside
    c.index_mut.ensures.value in
    may_take c.args.self.now c.requires.world.world c.args.i c.index_mut.result.now c.requires.world.parts got

pub step_word-requires-clause-due : goal.step_word-requires-clause-due
step_word-requires-clause-due g c =
    let got = slice_get_read c.args.self.now.actors.items _ c.args.i c.index_mut.result.now refl c.requires.inside
    c.index_mut.ensures.value in
    c.requires.due c.index_mut.result.now got

pub step_word-requires-clause-word : goal.step_word-requires-clause-word
step_word-requires-clause-word g c =
    let got = slice_get_read c.args.self.now.actors.items _ c.args.i c.index_mut.result.now refl c.requires.inside
    c.index_mut.ensures.value in
    (c.requires.stays c.index_mut.result.now got).2

pub returns : goal.returns
returns g c =
    let r = c.index_mut.result.now in
    let got = slice_get_read c.args.self.now.actors.items _ c.args.i r refl c.requires.inside c.index_mut.ensures.value in
    let stays = c.requires.stays r got in
    passes c.args.self.now c.step_word.new.table c.args.i r c.step_word.new.actor c.step_word.result got stays.2
    (none_at_word r.stage (c.requires.due r got) stays.0 stays.1)
    (c.step_word.ensures.turns c.args.self.now.blocks _)
    (keeps_step c.copies_by_stage.ensures.steps c.copies_by_stage.ensures.begun c.copies_stay.ensures.events c.begins_with_nothing.ensures
    c.copies_stay.ensures.others c.copies_by_stage.ensures.others
    c.args.self.now.blocks _ _ r c.step_word.new.actor stays.2 (λ asked. calm_at (stage_of r.stage) next.Word (c.requires.due r got)
    (λ k q. let z : ⊥ = cc in z) asked) c.step_word.ensures.leaves)
    (room_kept _ c.args.self.now.table c.step_word.new.table r c.step_word.new.actor c.step_word.ensures.bases
    (not_first (stage_of r.stage) next.Word (c.requires.due r got) (λ e. let z : ⊥ = cc in z)) c.step_word.ensures.leaves)
    c.step_word.ensures.shape (λ _. c.step_word.ensures.running)
    c.step_word.ensures.grows
