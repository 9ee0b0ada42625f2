use Rattle.std.proofs.Common.{refl, subst, sym}
use Rattle.std.specs.FinMap.{get}
use Rattle.std.specs.Prelude.{slice_index}
use Rattle.conflict.specs.Footprints.{key_location}
use Rattle.replay_log.specs.declared.base.Base.{Base}
use Rattle.actor_parts.specs.declared.copies.BaseExcerpt.{BaseExcerpt}
use Rattle.actor_parts.specs.declared.copies.BaseExcerpt.TheVariants.{Keys}
use Rattle.actor_parts.specs.PrivateCopy.{IsFound}
use Rattle.actor_parts.specs.Taking.{key_touch}
use Rattle.actor_parts.proofs.taking.take_from.Goals as goal

pub returns-in_ok-place-in-Some-clause-ok : goal.returns-in_ok-place-in-Some-clause-ok
returns-in_ok-place-in-Some-clause-ok g c =
    let map = c.in-Map.map in
    let key = c.in-Some.key in
    let l = key_location map.stripes key in
    let found : BaseExcerpt g.row.V.Denot = Keys (key_touch key (get map.shown key) l (slice_index map.editions l)) in
    record {
      found = found;
      is = subst (λ (b : Base g.row.V.Denot). IsFound b c.args.op.now found) (sym c.in-Map.is)
          (c.in-Some.ensures map.stripes map.shown, refl);
      at = c.in_ok-place-in-Some.ensures.ok;
    }
