use Rattle.std.proofs.Common.{arith, length, refl}
use Rattle.std.proofs.lemmas.Option.{slice_get_read}
use Rattle.tx_actor.specs.Running.{stage_of}
use Rattle.tx_actor.proofs.HomeLemmas.{quiet_home}
use Rattle.step_world.proofs.HomeInWorldLemmas.{keeps_home, may_go, none_at_home, room_home, turn_home}
use Rattle.tx_actor.proofs.NameLemmas.{named_home}
use Rattle.step_world.proofs.PartsLemmas.{passes, same_cells}
use Rattle.step_world.proofs.WorldLemmas.{shape_laid}
use Rattle.step_world.proofs.parts.Parts.go_home.Goals as goal

pub go_home-requires-clause-inside : goal.go_home-requires-clause-inside
go_home-requires-clause-inside g c =
    let r = c.index_mut.result.now in
    let got = slice_get_read c.args.self.now.actors.items _ c.args.i r refl c.requires.inside c.index_mut.ensures.value in
    let shape = shape_laid c.args.self.now c.requires.world.world c.requires.world.parts in
    let low = named_home r.stage c.args.k (length c.args.self.now.blocks.blocks) (c.requires.due r got)
    (c.requires.world.parts.seats c.args.i r got).running.names in (omega (arith, low, shape.gates), omega (arith, low, shape.bases))

pub go_home-requires-clause-due : goal.go_home-requires-clause-due
go_home-requires-clause-due g c =
    let got = slice_get_read c.args.self.now.actors.items _ c.args.i c.index_mut.result.now refl c.requires.inside
    c.index_mut.ensures.value in
    c.requires.due c.index_mut.result.now got

pub go_home-requires-clause-may : goal.go_home-requires-clause-may
go_home-requires-clause-may g c =
    let r = c.index_mut.result.now in
    let got = slice_get_read c.args.self.now.actors.items _ c.args.i r refl c.requires.inside c.index_mut.ensures.value in
    may_go c.args.self.now c.args.i c.args.k r c.requires.world got (c.requires.due r got)

pub returns : goal.returns
returns g c =
    let p = c.args.self.now in
    let k = c.args.k in
    let t = c.go_home in
    let r = c.index_mut.result.now in
    let got = slice_get_read p.actors.items _ c.args.i r refl c.requires.inside c.index_mut.ensures.value in
    let due = c.requires.due r got in
    let kept = t.ensures.keeps p.blocks in
    passes p t.new.table c.args.i r t.new.actor t.result got (quiet_home (stage_of r.stage) k due) (none_at_home (stage_of r.stage) k due)
    (turn_home p.blocks _ k p.table t.new.table r t.new.actor t.result (shape_laid p c.requires.world.world c.requires.world.parts) due
    t.ensures.turns)
    (keeps_home c.steps_as_worlds.ensures c.copies_stay.ensures.events c.copies_stay.ensures.stays c.copies_stay.ensures.others
    c.copies_by_stage.ensures.others p.blocks _ k p.table r t.new.actor due t.ensures.others t.ensures.left)
    (room_home c.steps_as_worlds.ensures _ k p.table t.new.table r t.new.actor due t.ensures.bases t.ensures.others t.ensures.left)
    t.ensures.shape kept.running (same_cells p.table t.new.table r t.new.actor t.ensures.cells kept.owed)
