use Rattle.std.proofs.Common.{◌≡◌, Some, refl, slice_get, subst, sym}
use Rattle.replay_log.specs.declared.base.Base.{Base}
use Rattle.std.proofs.lemmas.Option.{slice_get_read}
use Rattle.tx_turns.proofs.HomeLemmas.{on_ok, one_alike, one_prepared}
use Rattle.tx_turns.proofs.homes.prepare_base.Goals as goal

pub returns-clause-alike : goal.returns-clause-alike
returns-clause-alike g c =
    let bs = c.args.bases.now.items in
    let old = c.get_mut.result.now in
    let read = subst (λ (b : Base g.row.V.Denot). slice_get bs c.args.i ≡ Some b) (sym c.get_mut.ensures.value)
    (slice_get_read bs _ c.args.i c.index_mut.result.now refl c.requires c.index_mut.ensures.value) in
    one_alike bs c.args.i old c.prepares_base.new.base read
    (record {
      shown = c.prepares_base.ensures.shown;
      stripes = c.prepares_base.ensures.stripes;
      editions =
          c.prepares_base.ensures.editions;
    })

pub returns-clause-prepared : goal.returns-clause-prepared
returns-clause-prepared g c =
    on_ok c.prepares_base.result _ _
    (one_prepared c.args.actor.now.copies.items c.args.k c.args.i c.args.bases.now.items c.prepares_base.new.base c.requires)
    c.prepares_base.ensures.ok
