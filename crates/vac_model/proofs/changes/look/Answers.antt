use Rattle.std.proofs.Common.{◌∙◌, sym, ap}
use Rattle.std.specs.Option.{option_copied}
use Rattle.vac_model.proofs.OverlayLemmas.{laid_at, laid_below}
use Rattle.vac_model.proofs.changes.look.Goals as goal

pub returns-in-Some : goal.returns-in-Some
returns-in-Some g c =
    c.as_ref.ensures.value ∙ sym
    (laid_at c.args.below.now c.args.changes.now c.args.key _ (sym c.get.ensures ∙ ap option_copied c.in-Some.is))

pub returns-in-None : goal.returns-in-None
returns-in-None g c =
    c.get-in-None.ensures ∙ sym
    (laid_below c.args.below.now c.args.changes.now c.args.key (sym c.get.ensures ∙ ap option_copied c.in-None.is))
