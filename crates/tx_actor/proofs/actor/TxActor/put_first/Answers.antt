use Rattle.std.proofs.lemmas.List.Elements.{All-drop}
use Rattle.std.specs.List.{All}
use Rattle.std.proofs.Common.{sym, ap, ◌∙◌, refl, subst, ℕ, ◌<◌}
use Rattle.replay_log.specs.Worlds.{gives_up}
use Rattle.tx_actor.specs.Running.{at, seat_of, stage_of}
use Rattle.actor_parts.specs.Dispatch.{after_put}
use Rattle.tx_actor.specs.declared.actor.Stage.TheVariants as stage
use Rattle.tx_actor.proofs.DispatchLemmas.{by_result, does_stays, give_up_at, puts_first, puts_none}
use Rattle.tx_actor.proofs.ActorBoundsLemmas.{keeps_from, keeps_same}
use Rattle.tx_actor.proofs.CopiesByStageLemmas.{copies_idle, copies_same}
use Rattle.tx_actor.proofs.actor.TxActor.put_first.Goals as goal

pub returns-then-has_none-clause-does : goal.returns-then-has_none-clause-does
returns-then-has_none-clause-does g c =
    let r = at c.args.self.now (stage.Returning c.args.homes) in
    does_stays after_put r c.unchanged.new.self c.unchanged.result c.unchanged.ensures.stage c.unchanged.ensures.told
    (λ a w. puts_none w a (seat_of r) c.args.homes.items (sym c.has_none.ensures ∙ c.if-has_none.true))

pub returns-clause-does : goal.returns-clause-does
returns-clause-does g c a w s =
    let r = at c.args.self.now (stage.Returning c.args.homes) in
    by_result c.put_back_gates.new.self c.put_back_gates.result a _ _
    (puts_first w a (seat_of r) c.args.homes.items (sym c.has_none.ensures ∙ c.if-has_none.false)
    ∙ (ap (gives_up w a (seat_of r)) (sym c.pop_front.ensures.rest) ∙ give_up_at w a (seat_of c.args.self.now) (stage_of r.stage) _))
    (c.put_back_gates.ensures.does a w s.1)

pub returns-then-has_none-clause-keeps : goal.returns-then-has_none-clause-keeps
returns-then-has_none-clause-keeps g c v =
    keeps_same v (at c.args.self.now (stage.Returning c.args.homes)) c.unchanged.new.self c.unchanged.ensures.stage

pub returns-clause-keeps : goal.returns-clause-keeps
returns-clause-keeps g c v =
    keeps_from v c.args.self.now c.args.self.now c.put_back_gates.new.self (stage.Returning c.args.homes) (stage.Returning
    c.pop_front.new.self) refl (c.put_back_gates.ensures.keeps v)
    (λ n h. subst (All (λ (k : ℕ). k < n)) (sym c.pop_front.ensures.rest) (All-drop (λ (k : ℕ). k < n) 1 c.args.homes.items h)) (λ z. tt)

pub returns-then-has_none-clause-leaves : goal.returns-then-has_none-clause-leaves
returns-then-has_none-clause-leaves g c =
    copies_same (at c.args.self.now (stage.Returning c.args.homes)) c.unchanged.new.self refl c.unchanged.ensures.stage

pub returns-clause-leaves : goal.returns-clause-leaves
returns-clause-leaves g c =
    copies_idle (at c.args.self.now (stage.Returning c.args.homes)) c.args.self.now c.put_back_gates.new.self
    c.put_back_gates.ensures.leaves
