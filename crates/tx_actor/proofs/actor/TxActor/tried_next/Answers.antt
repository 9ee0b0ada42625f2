use Rattle.std.proofs.Common.{◌<◌, ◌≤◌, ◌∙◌, drop, length, rules, take, refl}
use Rattle.std.proofs.lemmas.List.{drop_all, drop_more}
use Rattle.tx_actor.specs.Running.{at, seat_of, stage_of}
use Rattle.actor_parts.specs.Dispatch.{after_try}
use Rattle.tx_actor.specs.declared.actor.Stage.TheVariants as stage
use Rattle.tx_actor.proofs.DispatchLemmas.{by_result, does_stays, gating_some, gating_none, tried_at}
use Rattle.tx_actor.proofs.ActorBoundsLemmas.{keeps_same}
use Rattle.tx_actor.proofs.CopiesByStageLemmas.{copies_same}
use Rattle.tx_actor.proofs.actor.TxActor.tried_next.Goals as goal

pub returns-then-got-len-clause-does : goal.returns-then-got-len-clause-does
returns-then-got-len-clause-does g c a w s =
    let r = at c.args.self.now (stage.Gating c.args.homes c.args.got c.args.tries) in
    let inside : c.args.got < length c.args.homes.items = search rules in
    let e = drop_more c.args.homes.items c.args.got 0 inside in
    by_result c.after_home_try.new.self c.after_home_try.result a _ _
    (gating_some w a (seat_of r) c.args.free (take c.args.got c.args.homes.items) (drop c.args.got c.args.homes.items) c.args.tries _ _ e
    ∙ tried_at w a (seat_of c.args.self.now) (stage_of r.stage) c.args.free _ _ _ _ c.args.tries)
    (c.after_home_try.ensures.does _ _ e a w s.1)

pub returns-else-got-len-clause-does : goal.returns-else-got-len-clause-does
returns-else-got-len-clause-does g c =
    let r = at c.args.self.now (stage.Gating c.args.homes c.args.got c.args.tries) in
    let outside : length c.args.homes.items ≤ c.args.got = search rules in
    does_stays (λ w a x s. after_try w a x s c.args.free) r c.unchanged.new.self c.unchanged.result c.unchanged.ensures.stage
    c.unchanged.ensures.told
    (λ a w. gating_none w a (seat_of r) c.args.free _ _ c.args.tries (drop_all c.args.got c.args.homes.items outside))

pub returns-then-got-len-clause-keeps : goal.returns-then-got-len-clause-keeps
returns-then-got-len-clause-keeps g c v = c.after_home_try.ensures.keeps v

pub returns-else-got-len-clause-keeps : goal.returns-else-got-len-clause-keeps
returns-else-got-len-clause-keeps g c v =
    keeps_same v (at c.args.self.now (stage.Gating c.args.homes c.args.got c.args.tries)) c.unchanged.new.self c.unchanged.ensures.stage

pub returns-then-got-len-clause-leaves : goal.returns-then-got-len-clause-leaves
returns-then-got-len-clause-leaves g c =
    c.after_home_try.ensures.leaves

pub returns-else-got-len-clause-leaves : goal.returns-else-got-len-clause-leaves
returns-else-got-len-clause-leaves g c =
    copies_same (at c.args.self.now (stage.Gating c.args.homes c.args.got c.args.tries)) c.unchanged.new.self refl c.unchanged.ensures.stage
