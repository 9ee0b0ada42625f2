use Rattle.std.proofs.Common.{refl}
use Rattle.std.proofs.lemmas.Option.{slice_get_read}
use Rattle.step_world.proofs.PrepareLemmas.{one_alike}
use Rattle.step_world.proofs.homes.prepare_base.Goals as goal

pub returns-clause-alike : goal.returns-clause-alike
returns-clause-alike g c =
    let old = c.index_mut.result.now in
    let read = slice_get_read c.args.table.now.bases.items _ c.args.k old refl c.requires c.index_mut.ensures.value in
    one_alike c.args.table.now.bases.items c.args.k old c.prepares_base.new.base read
    (record {
      shown = c.prepares_base.ensures.shown;
      stripes = c.prepares_base.ensures.stripes;
      editions = c.prepares_base.ensures.editions;
      room = c.prepares_base.ensures.room;
    })
