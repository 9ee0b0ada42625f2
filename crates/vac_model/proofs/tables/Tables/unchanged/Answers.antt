use Rattle.std.proofs.Common.{◌∙◌, ap}
use Rattle.vac_model.specs.Overlays.{with_changes, no_changes}
use Rattle.vac_model.proofs.OverlayLemmas.{without_changes}
use Rattle.vac_model.proofs.tables.Tables.unchanged.Goals as goal

pub returns : goal.returns
returns c = ap (with_changes c.args.self.now) (c.none.ensures ∙ ap no_changes c.next_ticket.ensures) ∙ without_changes c.args.self.now
