use Rattle.std.proofs.Common.{arith, length, refl}
use Rattle.std.proofs.lemmas.Option.{slice_get_read}
use Rattle.tx_actor.specs.Running.{stage_of}
use Rattle.step_world.proofs.PartsLemmas.{none_at_put, passes, same_cells}
use Rattle.tx_actor.proofs.StepLemmas.{quiet_put}
use Rattle.step_world.proofs.WorldLemmas.{shape_laid}
use Rattle.tx_actor.proofs.NameLemmas.{named_put}
use Rattle.step_world.proofs.OwnTurnLemmas.{keeps_step}
use Rattle.tx_actor.proofs.OwnLemmas.{calm_at}
use Rattle.step_world.proofs.RoomLemmas.{not_first, room_kept}
use Rattle.actor_parts.specs.declared.next.Next.TheVariants as next
use Rattle.step_world.proofs.parts.Parts.put_gate.Goals as goal

pub put_gate-requires-clause-inside : goal.put_gate-requires-clause-inside
put_gate-requires-clause-inside g c =
    let r = c.index_mut.result.now in
    let got = slice_get_read c.args.self.now.actors.items _ c.args.i r refl c.requires.inside c.index_mut.ensures.value in
    let gates = (shape_laid c.args.self.now c.requires.world.world c.requires.world.parts).gates in
    let low = named_put r.stage c.args.k (length c.args.self.now.blocks.blocks) (c.requires.due r got)
    (c.requires.world.parts.seats c.args.i r got).running.names in
    omega (arith, gates, low)

pub put_gate-requires-clause-due : goal.put_gate-requires-clause-due
put_gate-requires-clause-due g c =
    let got = slice_get_read c.args.self.now.actors.items _ c.args.i c.index_mut.result.now refl c.requires.inside
    c.index_mut.ensures.value in
    c.requires.due c.index_mut.result.now got

pub returns : goal.returns
returns g c =
    let r = c.index_mut.result.now in
    let got = slice_get_read c.args.self.now.actors.items _ c.args.i r refl c.requires.inside c.index_mut.ensures.value in
    let kept = c.put_gate.ensures.keeps c.args.self.now.blocks in
    passes c.args.self.now c.put_gate.new.table c.args.i r c.put_gate.new.actor c.put_gate.result got
    (quiet_put (stage_of r.stage) c.args.k (c.requires.due r got)) (none_at_put (stage_of r.stage) c.args.k (c.requires.due r got))
    (c.put_gate.ensures.turns c.args.self.now.blocks _)
    (keeps_step c.copies_by_stage.ensures.steps c.copies_by_stage.ensures.begun c.copies_stay.ensures.events c.begins_with_nothing.ensures
    c.copies_stay.ensures.others c.copies_by_stage.ensures.others
    c.args.self.now.blocks _ _ r c.put_gate.new.actor (quiet_put (stage_of r.stage) c.args.k (c.requires.due r got))
    (λ asked. calm_at (stage_of r.stage) (next.PutGate c.args.k) (c.requires.due r got)
    (λ k q. let z : ⊥ = cc in z) asked) c.put_gate.ensures.leaves)
    (room_kept _ c.args.self.now.table c.put_gate.new.table r c.put_gate.new.actor c.put_gate.ensures.bases
    (not_first (stage_of r.stage) (next.PutGate c.args.k) (c.requires.due r got) (λ e. let z : ⊥ = cc in z)) c.put_gate.ensures.leaves)
    c.put_gate.ensures.shape kept.running
    (same_cells c.args.self.now.table c.put_gate.new.table r c.put_gate.new.actor c.put_gate.ensures.cells kept.owed)
