use Rattle.std.proofs.Common.{List, refl, sym, ◌∙◌, subst}
use Rattle.std.proofs.lemmas.Bool.{false≢true}
use Rattle.std.specs.Prelude.{All}
use Rattle.vac_model.specs.declared.action.Action.{Action}
use Rattle.vac_model.specs.Actions.{IsAllowed}
use Rattle.workers.proofs.ListLemmas.{all_looked_at, list_at}
use Rattle.workers.proofs.served.all_allowed.Goals as goal

pub returns-then-not-are_allowed : goal.returns-then-not-are_allowed
returns-then-not-are_allowed c = (
  λ e. absurd (false≢true e),
  λ all. sym c.if-not-are_allowed.true
      ∙ c.are_allowed.ensures.1
      (subst (λ (xs : List Action). All IsAllowed xs) (sym c.as_slice.ensures.value)
      (list_at c.args.lists.now c.loop-list.list-index c.list-item.result c.loop-list-test.true c.list-item.is all)),
)

pub returns : goal.returns
returns c =
    (λ e. all_looked_at c.args.lists.now c.loop-list.list-index c.loop-list-test.false c.loop-list.invariant, λ all. refl)
