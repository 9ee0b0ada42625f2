use Rattle.std.proofs.lemmas.List.Elements.{All-drop}
use Rattle.std.specs.List.{All}
use Rattle.std.proofs.Common.{refl, sym, ◌∙◌, subst, ℕ, ◌<◌, List}
use Rattle.tx_actor.specs.Running.{at, seat_at}
use Rattle.tx_actor.specs.declared.actor.Stage.TheVariants as stage
use Rattle.tx_actor.proofs.DispatchLemmas.{home_stays, homes_as, homes_none}
use Rattle.tx_actor.proofs.ActorBoundsLemmas.{keeps_from, keeps_same}
use Rattle.tx_actor.proofs.CopiesByStageLemmas.{copies_same, from_homing, later_in}
use Rattle.std.specs.Prelude.{Contains}
use Rattle.tx_actor.proofs.actor.TxActor.first_home.Goals as goal

pub returns-then-has_none-clause-does : goal.returns-then-has_none-clause-does
returns-then-has_none-clause-does g c =
    let r = at c.args.self.now (stage.Homing c.args.homes) in
    home_stays r c.unchanged.new.self c.unchanged.result c.unchanged.ensures.stage c.unchanged.ensures.told
    (λ a w. homes_none w a (seat_at (w.seats a) r) c.args.homes.items (sym c.has_none.ensures ∙ c.if-has_none.true))

pub returns-clause-does : goal.returns-clause-does
returns-clause-does g c =
    let r = at c.args.self.now (stage.Homing c.args.homes) in
    homes_as r c.return_bases.new.self c.return_bases.result c.args.homes _ refl (sym c.has_none.ensures ∙ c.if-has_none.false)
    c.pop_front.ensures.rest c.return_bases.ensures.does

pub returns-then-has_none-clause-keeps : goal.returns-then-has_none-clause-keeps
returns-then-has_none-clause-keeps g c v =
    keeps_same v (at c.args.self.now (stage.Homing c.args.homes)) c.unchanged.new.self c.unchanged.ensures.stage

pub returns-clause-keeps : goal.returns-clause-keeps
returns-clause-keeps g c v =
    keeps_from v c.args.self.now c.args.self.now c.return_bases.new.self (stage.Homing c.args.homes) (stage.Homing c.pop_front.new.self)
    refl (c.return_bases.ensures.keeps v)
    (λ n h. subst (All (λ (k : ℕ). k < n)) (sym c.pop_front.ensures.rest) (All-drop (λ (k : ℕ). k < n) 1 c.args.homes.items h)) (λ z. tt)

pub returns-then-has_none-clause-leaves : goal.returns-then-has_none-clause-leaves
returns-then-has_none-clause-leaves g c =
    copies_same (at c.args.self.now (stage.Homing c.args.homes)) c.unchanged.new.self refl c.unchanged.ensures.stage

pub returns-clause-leaves : goal.returns-clause-leaves
returns-clause-leaves g c =
    from_homing c.return_bases.new.self.stage c.pop_front.new.self
    (stage.Homing c.args.homes) c.args.self.now.copies.items c.return_bases.new.self.copies.items
    (λ ks h k there. later_in c.args.homes.items k (subst (λ (js : List ℕ). Contains js k) c.pop_front.ensures.rest (h k there)))
    c.return_bases.ensures.leaves
