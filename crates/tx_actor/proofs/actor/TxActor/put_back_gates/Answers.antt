use Rattle.std.proofs.Common.{refl, sym, ◌∙◌}
use Rattle.tx_actor.specs.Running.{seat_of}
use Rattle.tx_actor.proofs.RunsLemmas.{returns_as}
use Rattle.tx_actor.proofs.ActorBoundsLemmas.{keeps_from, keeps_plain}
use Rattle.tx_actor.specs.declared.actor.Stage.TheVariants as stage
use Rattle.tx_actor.proofs.actor.TxActor.put_back_gates.Goals as goal

pub returns-clause-does : goal.returns-clause-does
returns-clause-does g c a w s = returns_as a (seat_of c.args.self.now) _ _ _ w c.args.homes.items tt (sym c.has_none.ensures ∙
    c.if-has_none.false) refl s

pub returns-then-has_none-clause-keeps : goal.returns-then-has_none-clause-keeps
returns-then-has_none-clause-keeps g c v =
    keeps_from v c.args.self.now c.args.self.now c.start_cancel.new.self (stage.Returning c.args.homes) stage.Idle refl
    (c.start_cancel.ensures.keeps v) (λ n h. tt) (λ z. tt)

pub returns-clause-keeps : goal.returns-clause-keeps
returns-clause-keeps g c v =
    keeps_plain v c.args.self.now _ (stage.Returning c.args.homes) (stage.Returning c.args.homes) refl refl (λ n h. h) (λ z. tt)

pub returns-then-has_none-clause-leaves : goal.returns-then-has_none-clause-leaves
returns-then-has_none-clause-leaves g c =
    c.start_cancel.ensures.leaves

pub returns-clause-leaves : goal.returns-clause-leaves
returns-clause-leaves g c =
    tt
