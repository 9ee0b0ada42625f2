use Rattle.std.specs.Global.{Vec}
use Rattle.seq_model.specs.declared.call.Call.{Call}
use Rattle.seq_model.specs.declared.call.Reply.{Reply}
use Rattle.std.proofs.Common.{ap, ◌∙◌, refl}
use Rattle.replay_log.specs.Worlds.{recorded}
use Rattle.std.specs.Prelude.{true}
use Rattle.tx_actor.specs.Running.{at, seat_of}
use Rattle.tx_actor.specs.declared.actor.Stage.TheVariants as stage
use Rattle.tx_actor.proofs.DispatchLemmas.{by_result, heard_as, stored_else}
use Rattle.tx_actor.proofs.ActorBoundsLemmas.{keeps_from}
use Rattle.tx_actor.proofs.CopiesByStageLemmas.{from_homing, from_storing}
use Rattle.tx_actor.proofs.actor.TxActor.on_first_stored.Goals as goal

pub returns-in-Stored-clause-does : goal.returns-in-Stored-clause-does
returns-in-Stored-clause-does g c =
    let r = at c.args.self.now (stage.Ready c.args.homes) in
    heard_as r c.return_bases.new.self c.return_bases.result _ _ c.in-Stored.is
    (λ a w m s. c.return_bases.ensures.does a (recorded w a (seat_of r) true r.wv) (seat_of r) (refl, refl, refl) m s.1)

pub returns-in_default-clause-does : goal.returns-in_default-clause-does
returns-in_default-clause-does g c a w m s =
    let r = at c.args.self.now (stage.Ready c.args.homes) in
    let now = recorded w a (seat_of r) true r.wv in
    by_result c.after_store.new.self c.after_store.result a _ _
    (stored_else now a (seat_of r) c.args.homes.items c.args.heard c.in_default.not-Stored)
    (c.after_store.ensures.does a now (seat_of r) (refl, refl, refl) s.1)

pub returns-in-Stored-clause-made : goal.returns-in-Stored-clause-made
returns-in-Stored-clause-made g c =
    ap (λ (v : Vec (Call g.row.V.Denot × Reply g.row.V.Denot)). v.items) (c.return_bases.ensures.made ∙ c.swap.ensures.x_after)

pub returns-in_default-clause-made : goal.returns-in_default-clause-made
returns-in_default-clause-made g c =
    ap (λ (v : Vec (Call g.row.V.Denot × Reply g.row.V.Denot)). v.items) (c.after_store.ensures.made ∙ c.swap.ensures.x_after)

pub returns-in-Stored-clause-keeps : goal.returns-in-Stored-clause-keeps
returns-in-Stored-clause-keeps g c v =
    keeps_from v c.args.self.now
    (record c.args.self.now { made = c.swap.new.x; calls = c.swap.new.y })
    c.return_bases.new.self (stage.Ready c.args.homes) (stage.Homing c.args.homes) refl
    (c.return_bases.ensures.keeps v) (λ n h. h) (λ z. tt)

pub returns-in_default-clause-keeps : goal.returns-in_default-clause-keeps
returns-in_default-clause-keeps g c v =
    keeps_from v c.args.self.now
    (record c.args.self.now { made = c.swap.new.x; calls = c.swap.new.y })
    c.after_store.new.self (stage.Ready c.args.homes) (stage.Storing c.args.homes) refl
    (c.after_store.ensures.keeps v) (λ n h. h) (λ z. tt)

pub returns-in-Stored-clause-leaves : goal.returns-in-Stored-clause-leaves
returns-in-Stored-clause-leaves g c =
    from_homing c.return_bases.new.self.stage c.args.homes
    (stage.Ready c.args.homes) c.args.self.now.copies.items c.return_bases.new.self.copies.items (λ ks h. tt)
    c.return_bases.ensures.leaves

pub returns-in_default-clause-leaves : goal.returns-in_default-clause-leaves
returns-in_default-clause-leaves g c =
    from_storing c.after_store.new.self.stage c.args.homes
    (stage.Ready c.args.homes) c.args.self.now.copies.items c.after_store.new.self.copies.items (λ ks h. tt)
    c.after_store.ensures.leaves
