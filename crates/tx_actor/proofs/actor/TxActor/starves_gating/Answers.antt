use Rattle.std.proofs.lemmas.List.Elements.{All-take}
use Rattle.std.specs.List.{All}
use Rattle.std.proofs.Common.{sym, ap, ◌∙◌, refl, subst, ℕ, ◌<◌}
use Rattle.seq_model.specs.declared.refusal.Refusal.TheVariants.{Memory as OutOfMemory}
use Rattle.replay_log.specs.Worlds.{because, gives_up}
use Rattle.tx_actor.specs.Running.{at, seat_of, stage_of}
use Rattle.tx_actor.specs.declared.actor.Stage.TheVariants as stage
use Rattle.tx_actor.proofs.DispatchLemmas.{by_result, give_up_at}
use Rattle.tx_actor.proofs.ActorBoundsLemmas.{keeps_from}
use Rattle.tx_actor.proofs.actor.TxActor.starves_gating.Goals as goal

pub returns-clause-does : goal.returns-clause-does
returns-clause-does g c n a w s =
    let r = at c.args.self.now (stage.Gating c.args.homes c.args.got n) in
    by_result c.abort_returning.new.self c.abort_returning.result a _ _
    (give_up_at w a (because (seat_of c.args.self.now) OutOfMemory) (stage_of r.stage) _
    ∙ ap (gives_up w a (because (seat_of c.args.self.now) OutOfMemory)) (sym c.truncate.ensures.items)) (c.abort_returning.ensures.does a w
    s.1)

pub returns-clause-keeps : goal.returns-clause-keeps
returns-clause-keeps g c v =
    keeps_from v c.args.self.now c.args.self.now c.abort_returning.new.self (stage.Gating c.args.homes c.args.got 0) (stage.Returning
    c.truncate.new.self) refl (c.abort_returning.ensures.keeps v)
    (λ n h. subst (All (λ (k : ℕ). k < n)) (sym c.truncate.ensures.items) (All-take (λ (k : ℕ). k < n) c.args.got c.args.homes.items h))
    (λ z. tt)

pub returns-clause-leaves : goal.returns-clause-leaves
returns-clause-leaves g c = c.abort_returning.ensures.leaves
