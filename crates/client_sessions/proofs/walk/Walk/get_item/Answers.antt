use Rattle.std.proofs.Common.{ap}
use Rattle.seq_model.specs.declared.call.Op.TheVariants.{Get}
use Rattle.seq_model.specs.Programs.{after}
use Rattle.client_sessions.specs.Sessions as programs
use Rattle.client_sessions.proofs.WalkLemmas.{along, replied, stops_along}
use Rattle.client_sessions.proofs.walk.Walk.get_item.Goals as goal

pub returns-in-Some-clause-comes : goal.returns-in-Some-clause-comes
returns-in-Some-clause-comes c = λ next. along _ _ _ _
    (replied (programs.on (programs.map_of c.args.kind) (Get c.args.id)) (λ r. programs.item_in r next) _ _ _ c.in-Some.ensures)
    (c.item_in.ensures.comes next _)

pub returns-in-None-clause-comes : goal.returns-in-None-clause-comes
returns-in-None-clause-comes c = λ next. stops_along _ _ _
    (ap (after (programs.get_item c.args.kind c.args.id next)) c.in-None.ensures.0)
    (rw c.map_of.ensures at (c.asks_get.ensures (λ r. programs.item_in r next)))
