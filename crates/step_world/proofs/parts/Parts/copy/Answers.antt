use Rattle.std.proofs.Common.{◌+◌, arith, length, refl, sym, ap, subst}
use Rattle.std.proofs.lemmas.Option.{slice_get_read}
use Rattle.seq_model.specs.declared.event.Event.TheVariants.{Starve}
use Rattle.tx_actor.specs.Running.{asked_of, stage_of}
use Rattle.tx_actor.specs.declared.actor.Stage.{Stage}
use Rattle.tx_actor.specs.declared.actor.ActorNotice.TheVariants.{Quiet}
use Rattle.actor_parts.specs.declared.table.Table.{Table}
use Rattle.step_world.specs.Parts.{Happens}
use Rattle.tx_actor.proofs.CopyLemmas.{copying_is, quiet_copy}
use Rattle.tx_actor.proofs.NameLemmas.{named_copy}
use Rattle.step_world.proofs.OwnTurnLemmas.{keeps_starve}
use Rattle.step_world.proofs.PartsLemmas.{none_copying, passes, same_cells, starve_happens, with_turn}
use Rattle.step_world.proofs.GateLemmas.{room_copy}
use Rattle.step_world.proofs.RoomLemmas.{room_starve}
use Rattle.step_world.proofs.WorldLemmas.{seated_at, shape_laid}
use Rattle.step_world.proofs.parts.Parts.copy.Goals as goal

pub copy_base-requires-clause-inside : goal.copy_base-requires-clause-inside
copy_base-requires-clause-inside g c =
    let r = c.index_mut.result.now in
    let got = slice_get_read c.args.self.now.actors.items _ c.args.i r refl c.requires.inside c.index_mut.ensures.value in
    let shape = shape_laid c.args.self.now c.requires.world.world c.requires.world.parts in
    let low = named_copy r.stage c.args.k (length c.args.self.now.blocks.blocks) (c.requires.due r got)
    (c.requires.world.parts.seats c.args.i r got).running.names in (omega (arith, low, shape.gates), omega (arith, low, shape.bases))

pub copy_base-requires-clause-running : goal.copy_base-requires-clause-running
copy_base-requires-clause-running g c =
    let got = slice_get_read c.args.self.now.actors.items _ c.args.i c.index_mut.result.now refl c.requires.inside
    c.index_mut.ensures.value in
    (c.requires.world.parts.seats c.args.i c.index_mut.result.now got).running

pub copy_base-requires-clause-shape : goal.copy_base-requires-clause-shape
copy_base-requires-clause-shape g c = shape_laid c.args.self.now c.requires.world.world c.requires.world.parts

pub copy_base-requires-clause-due : goal.copy_base-requires-clause-due
copy_base-requires-clause-due g c =
    let got = slice_get_read c.args.self.now.actors.items _ c.args.i c.index_mut.result.now refl c.requires.inside
    c.index_mut.ensures.value in
    c.requires.due c.index_mut.result.now got

pub copy_base-requires-clause-seated : goal.copy_base-requires-clause-seated
copy_base-requires-clause-seated g c =
    let got = slice_get_read c.args.self.now.actors.items _ c.args.i c.index_mut.result.now refl c.requires.inside
    c.index_mut.ensures.value in
    seated_at c.args.self.now c.args.i c.index_mut.result.now c.requires.world got

pub returns-in-Ok-clause-ok : goal.returns-in-Ok-clause-ok
returns-in-Ok-clause-ok g c =
    let p = c.args.self.now in
    let t = c.copy_base in
    let r = c.index_mut.result.now in
    let got = slice_get_read p.actors.items _ c.args.i r refl c.requires.inside c.index_mut.ensures.value in
    let due = c.requires.due r got in
    let is = copying_is r.stage c.args.k due in
    passes p t.new.table c.args.i r t.new.actor c.in-Ok.told got (quiet_copy r.stage c.args.k due)
    (none_copying (stage_of r.stage) (asked_of is.0) (ap (λ (s : Stage g.row.V.Denot). stage_of s) is.1)) (c.in-Ok.ensures.turns _)
    (c.in-Ok.ensures.own _) (room_copy _ c.args.k p.table t.new.table r t.new.actor t.ensures.bases due) t.ensures.shape
    t.ensures.keeps.running (same_cells p.table t.new.table r t.new.actor t.ensures.cells t.ensures.keeps.owed)

pub returns-in-Err-clause-err : goal.returns-in-Err-clause-err
returns-in-Err-clause-err g c =
    let p = c.args.self.now in
    let t = c.copy_base in
    let r = c.index_mut.result.now in
    let s = t.new.actor in
    let got = slice_get_read p.actors.items _ c.args.i r refl c.requires.inside c.index_mut.ensures.value in
    record {
      told = Quiet;
      happens = subst (λ (u : Table g.row.V.Denot). Happens p (Starve (c.args.i + 1)) (with_turn p u c.args.i s) Quiet)
          (sym c.in-Err.ensures.table)
          (starve_happens p c.args.i r s Quiet got c.in-Err.ensures.starves
          (keeps_starve c.copies_by_stage.ensures.steps c.copies_by_stage.ensures.begun c.copies_stay.ensures.events
          c.copies_stay.ensures.others c.copies_by_stage.ensures.others p.blocks _ p.table r s c.in-Err.ensures.leaves)
          (room_starve _ p.table r s c.in-Err.ensures.leaves) t.ensures.keeps);
    }
