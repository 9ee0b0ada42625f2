use Rattle.std.proofs.lemmas.List.Elements.{All-take}
use Rattle.std.specs.List.{All}
use Rattle.std.proofs.Common.{◌≡◌, arith, refl, sym, ◌∙◌, take, drop, ◌++◌, ◌∷◌, [], subst, ℕ, ◌<◌}
use Rattle.seq_model.specs.declared.refusal.Refusal.TheVariants.{GateBusy}
use Rattle.replay_log.specs.Worlds.{Gating, because, gives_up, takes_gates, at_stage}
use Rattle.tx_actor.specs.Running.{seat_of, at}
use Rattle.tx_actor.proofs.DispatchLemmas.{by_result}
use Rattle.tx_actor.specs.declared.actor.TxActor.{TxActor}
use Rattle.tx_actor.proofs.RunsLemmas.{at_next, last_try, seat_as, tried_again, tried_free}
use Rattle.tx_actor.proofs.ActorBoundsLemmas.{keeps_from, keeps_plain}
use Rattle.tx_actor.specs.declared.actor.Stage.TheVariants as stage
use Rattle.tx_actor.proofs.CopiesByStageLemmas.{copies_idle}
use Rattle.tx_actor.proofs.actor.TxActor.after_home_try.Goals as goal

pub returns-then-free-clause-does : goal.returns-then-free-clause-does
returns-then-free-clause-does g c k ks e a w s =
    let n = at_next c.args.got c.args.homes.items k 0 ks c.requires.next e in
    let old = c.args.self.now in
    let u : TxActor g.row.V.Denot = record old { stage = c.next_gate.result } in
    let next = takes_gates (take c.args.got c.args.homes.items ++ k ∷ []) ks in
    let r = tried_free a (seat_of old) (at_stage (seat_of old) next) _ _ w c.args.free k (take c.args.got c.args.homes.items)
    (λ n. Gating (take c.args.got c.args.homes.items) (drop c.args.got c.args.homes.items) n)
    next c.args.tries (c.next_gate.ensures.knows _) c.if-free.true refl s in (
      (
        seat_as u _ _ c.next_gate.ensures.shown r.0.0 (λ st j. at_stage (seat_of old) ((c.next_gate.ensures.stage st ∙ (λ i. takes_gates
            (n.1.0 i) (n.1.1 i))) j)),
        r.0.1,
        r.0.2,
      ),
      r.1,
    )

pub returns-then-tries-gt0-clause-does : goal.returns-then-tries-gt0-clause-does
returns-then-tries-gt0-clause-does g c k ks e a w s =
    tried_again a (seat_of c.args.self.now) _ _ _ w c.args.free k (take c.args.got c.args.homes.items)
    (λ n. Gating (take c.args.got c.args.homes.items) (drop c.args.got c.args.homes.items) n)
    (takes_gates (take c.args.got c.args.homes.items ++ k ∷ []) ks) c.args.tries
    tt c.if-free.false c.if-tries-gt0.true refl s

pub returns-clause-does : goal.returns-clause-does
returns-clause-does g c k ks e a w s =
    let x = seat_of c.args.self.now in
    let r = c.index-collection.result.now in
    let n = at_next c.args.got c.args.homes.items k r ks c.requires.next e in
    let le = c.if-tries-gt0.false in
    let none : c.args.tries ≡ 0 = omega arith in
    let busy : r ≡ k = c.index-collection.ensures ∙ n.0 in
    by_result c.abort_returning.new.self c.abort_returning.result a _ _
    (last_try a x w c.args.free k (take c.args.got c.args.homes.items)
    (λ n. Gating (take c.args.got c.args.homes.items) (drop c.args.got c.args.homes.items) n)
    (takes_gates (take c.args.got c.args.homes.items ++ k ∷ []) ks) c.args.tries c.if-free.false none
    ∙ sym (λ i. gives_up w a (because x (GateBusy (busy i))) (c.truncate.ensures.items i)))
    (c.abort_returning.ensures.does a w s)

pub returns-then-free-clause-keeps : goal.returns-then-free-clause-keeps
returns-then-free-clause-keeps g c v =
    keeps_plain v c.args.self.now _ (stage.Gating c.args.homes c.args.got c.args.tries) _ refl refl (λ n h. c.next_gate.ensures.names n
    h) c.next_gate.ensures.room

pub returns-then-tries-gt0-clause-keeps : goal.returns-then-tries-gt0-clause-keeps
returns-then-tries-gt0-clause-keeps g c v =
    keeps_plain v c.args.self.now _ (stage.Gating c.args.homes c.args.got c.args.tries) _ refl refl (λ n h. h) (λ z. tt)

pub returns-clause-keeps : goal.returns-clause-keeps
returns-clause-keeps g c v =
    keeps_from v c.args.self.now c.args.self.now c.abort_returning.new.self (stage.Gating c.args.homes c.args.got c.args.tries)
    (stage.Returning c.truncate.new.self) refl (c.abort_returning.ensures.keeps v)
    (λ n h. subst (All (λ (k : ℕ). k < n)) (sym c.truncate.ensures.items) (All-take (λ (k : ℕ). k < n) c.args.got c.args.homes.items h))
    (λ z. tt)

pub returns-then-free-clause-leaves : goal.returns-then-free-clause-leaves
returns-then-free-clause-leaves g c =
    c.next_gate.ensures.copies (stage.Gating c.args.homes c.args.got c.args.tries) c.args.self.now.copies.items tt

pub returns-then-tries-gt0-clause-leaves : goal.returns-then-tries-gt0-clause-leaves
returns-then-tries-gt0-clause-leaves g c =
    (tt, refl)

pub returns-clause-leaves : goal.returns-clause-leaves
returns-clause-leaves g c =
    copies_idle (at c.args.self.now
    (stage.Gating c.args.homes c.args.got c.args.tries)) c.args.self.now c.abort_returning.new.self c.abort_returning.ensures.leaves
