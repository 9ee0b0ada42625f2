use Rattle.std.proofs.Common.{◌≡◌, [], arith, refl, subst}
use Rattle.seq_model.specs.declared.refusal.Refusal.TheVariants.{GateBusy}
use Rattle.replay_log.specs.Worlds.{because, gives_up}
use Rattle.tx_actor.specs.Running.{Reseats}
use Rattle.tx_actor.specs.declared.actor.CollectionCall.{CollectionCall}
use Rattle.replay_log.specs.Worlds.{Trying, Copying}
use Rattle.tx_actor.specs.Running.{asked_of, seat_of, at}
use Rattle.tx_actor.proofs.DispatchLemmas.{by_result}
use Rattle.tx_actor.proofs.RunsLemmas.{last_try, tried_again, tried_free}
use Rattle.tx_actor.proofs.ActorBoundsLemmas.{keeps_from, keeps_room}
use Rattle.tx_actor.specs.declared.actor.Stage.TheVariants as stage
use Rattle.tx_actor.proofs.CopiesByStageLemmas.{copies_idle}
use Rattle.tx_actor.proofs.actor.TxActor.after_try.Goals as goal

pub returns-then-free-clause-does : goal.returns-then-free-clause-does
returns-then-free-clause-does g c a w s =
    tried_free a (seat_of c.args.self.now) _ _ _ w c.args.free c.args.asked.collection [] (λ n. Trying (asked_of c.args.asked) n)
    (Copying (asked_of c.args.asked)) c.args.tries
    tt c.if-free.true refl s

pub returns-then-tries-gt0-clause-does : goal.returns-then-tries-gt0-clause-does
returns-then-tries-gt0-clause-does g c a w s =
    tried_again a (seat_of c.args.self.now) _ _ _ w c.args.free c.args.asked.collection [] (λ n. Trying (asked_of c.args.asked) n)
    (Copying (asked_of c.args.asked)) c.args.tries
    tt c.if-free.false c.if-tries-gt0.true refl s

pub returns-clause-does : goal.returns-clause-does
returns-clause-does g c a w s =
    let le = c.if-tries-gt0.false in
    let none : c.args.tries ≡ 0 = omega arith in
    by_result c.abort_for.new.self c.abort_for.result a _ _
    (last_try a (seat_of c.args.self.now) w c.args.free c.args.asked.collection [] (λ n. Trying (asked_of c.args.asked) n)
    (Copying (asked_of c.args.asked)) c.args.tries c.if-free.false none)
    (subst
    (λ (k : CollectionCall g.row.V.Denot). Reseats c.args.self.now c.abort_for.new.self c.abort_for.result
    (λ a w. gives_up w a (because (seat_of c.args.self.now) (GateBusy k.collection)) [])) c.get.ensures c.abort_for.ensures.does a w s)

pub returns-then-free-clause-keeps : goal.returns-then-free-clause-keeps
returns-then-free-clause-keeps g c v =
    keeps_room v c.args.self.now _ (stage.Trying c.args.asked c.args.tries) (stage.Copying c.args.asked) refl refl (λ n h. h) (λ h. h) refl

pub returns-then-tries-gt0-clause-keeps : goal.returns-then-tries-gt0-clause-keeps
returns-then-tries-gt0-clause-keeps g c v =
    keeps_room v c.args.self.now _ (stage.Trying c.args.asked c.args.tries) _ refl refl (λ n h. h) (λ h. h) refl

pub returns-clause-keeps : goal.returns-clause-keeps
returns-clause-keeps g c v =
    keeps_from v c.args.self.now c.args.self.now c.abort_for.new.self (stage.Trying c.args.asked c.args.tries) stage.Idle refl
    (c.abort_for.ensures.keeps v) (λ n h. tt) (λ z. tt)

pub returns-then-free-clause-leaves : goal.returns-then-free-clause-leaves
returns-then-free-clause-leaves g c =
    (tt, refl)

pub returns-then-tries-gt0-clause-leaves : goal.returns-then-tries-gt0-clause-leaves
returns-then-tries-gt0-clause-leaves g c =
    (tt, refl)

pub returns-clause-leaves : goal.returns-clause-leaves
returns-clause-leaves g c =
    copies_idle (at c.args.self.now (stage.Trying c.args.asked c.args.tries)) c.args.self.now c.abort_for.new.self
    c.abort_for.ensures.leaves
