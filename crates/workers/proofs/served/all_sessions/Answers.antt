use Rattle.std.proofs.Common.{List, sym, subst}
use Rattle.std.specs.Prelude.{All}
use Rattle.vac_model.specs.declared.action.Action.{Action}
use Rattle.vac_model.specs.Actions.{IsAllowed}
use Rattle.workers.proofs.ListLemmas.{list_at}
use Rattle.workers.proofs.served.all_sessions.Goals as goal

pub sessions_of-requires : goal.sessions_of-requires
sessions_of-requires c =
    subst (λ (xs : List Action). All IsAllowed xs) (sym c.as_slice.ensures.value)
    (list_at c.args.lists.now c.loop-list.list-index c.list-item.result c.loop-list-test.true c.list-item.is c.requires)
