use Rattle.std.proofs.Common.{refl}
use Rattle.std.proofs.lemmas.Option.{slice_get_read}
use Rattle.step_world.proofs.PartsLemmas.{starve_happens}
use Rattle.step_world.proofs.OwnTurnLemmas.{keeps_starve}
use Rattle.step_world.proofs.RoomLemmas.{room_starve}
use Rattle.step_world.proofs.parts.Parts.starve.Goals as goal

pub returns : goal.returns
returns g c =
    let got = slice_get_read c.args.self.now.actors.items _ c.args.i c.index_mut.result.now refl c.requires c.index_mut.ensures.value in
    starve_happens c.args.self.now c.args.i c.index_mut.result.now c.on_starve.new.self c.on_starve.result got c.on_starve.ensures.does
    (keeps_starve c.copies_by_stage.ensures.steps c.copies_by_stage.ensures.begun c.copies_stay.ensures.events c.copies_stay.ensures.others
    c.copies_by_stage.ensures.others c.args.self.now.blocks _ c.args.self.now.table c.index_mut.result.now c.on_starve.new.self
    c.on_starve.ensures.leaves)
    (room_starve _ c.args.self.now.table c.index_mut.result.now c.on_starve.new.self c.on_starve.ensures.leaves)
    (c.on_starve.ensures.keeps c.args.self.now.blocks)
