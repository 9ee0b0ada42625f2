use Rattle.std.proofs.Common.{Bool, sym, subst, IsTrue}
use Rattle.std.specs.Prelude.{◌↔◌}
use Rattle.vac_model.specs.Balanced.{IsBalanced}
use Rattle.vac_model.proofs.TallyLemmas.{tally_decides}
use Rattle.vac_model.proofs.by_tally.is_balanced_by_tally.Goals as goal

pub returns : goal.returns
returns c = subst (λ (b : Bool). IsTrue b ↔ IsBalanced c.args.tables.now) (sym c.in_ok-answer.ensures) (tally_decides c.args.tables.now)
