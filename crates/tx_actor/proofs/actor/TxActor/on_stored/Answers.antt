use Rattle.std.proofs.Common.{refl}
use Rattle.tx_actor.specs.Running.{at, seat_at}
use Rattle.tx_actor.specs.declared.actor.Stage.TheVariants as stage
use Rattle.tx_actor.proofs.DispatchLemmas.{by_result, heard_as, stored_else}
use Rattle.tx_actor.proofs.ActorBoundsLemmas.{keeps_from}
use Rattle.tx_actor.proofs.CopiesByStageLemmas.{from_homing}
use Rattle.tx_actor.proofs.actor.TxActor.on_stored.Goals as goal

pub returns-in-Stored-clause-does : goal.returns-in-Stored-clause-does
returns-in-Stored-clause-does g c =
    let r = at c.args.self.now (stage.Storing c.args.homes) in
    heard_as r c.return_bases.new.self c.return_bases.result _ _ c.in-Stored.is
    (λ a w m s. c.return_bases.ensures.does a w (seat_at (w.seats a) r) (refl, refl, refl) m s.1)

pub returns-in_default-clause-does : goal.returns-in_default-clause-does
returns-in_default-clause-does g c a w m s =
    let r = at c.args.self.now (stage.Storing c.args.homes) in
    let x = seat_at (w.seats a) r in
    by_result c.after_store.new.self c.after_store.result a _ _
    (stored_else w a x c.args.homes.items c.args.heard c.in_default.not-Stored)
    (c.after_store.ensures.does a w x (refl, refl, refl) s.1)

pub returns-in-Stored-clause-keeps : goal.returns-in-Stored-clause-keeps
returns-in-Stored-clause-keeps g c v =
    keeps_from v c.args.self.now c.args.self.now c.return_bases.new.self (stage.Storing c.args.homes) (stage.Homing c.args.homes) refl
    (c.return_bases.ensures.keeps v) (λ n h. h) (λ z. tt)

pub returns-in_default-clause-keeps : goal.returns-in_default-clause-keeps
returns-in_default-clause-keeps g c v = c.after_store.ensures.keeps v

pub returns-in-Stored-clause-leaves : goal.returns-in-Stored-clause-leaves
returns-in-Stored-clause-leaves g c =
    from_homing c.return_bases.new.self.stage c.args.homes
    (stage.Storing c.args.homes) c.args.self.now.copies.items c.return_bases.new.self.copies.items (λ ks h. h)
    c.return_bases.ensures.leaves

pub returns-in_default-clause-leaves : goal.returns-in_default-clause-leaves
returns-in_default-clause-leaves g c =
    c.after_store.ensures.leaves
