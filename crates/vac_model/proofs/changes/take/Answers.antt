use Rattle.std.proofs.Common.{◌∙◌, ap, None}
use Rattle.vac_model.specs.Overlays.{laid}
use Rattle.vac_model.proofs.OverlayLemmas.{laid-insert}
use Rattle.vac_model.proofs.changes.take.Goals as goal

pub returns : goal.returns
returns g c = ap (laid c.args.below.now) c.in_ok-insert.ensures.ok ∙ laid-insert c.args.below.now c.args.changes.now c.args.key None
