-- The guards of an actor's steps on gates hold, in a world that events have reached and in each that is alike to the actor there.
--
-- In the reached world the machine does the action that is next (`world_allows`). Each of these guards speaks of the actor's place and of
-- whether a gate is its own, which are the same where worlds are alike to it.
use Rattle.std.proofs.Common.{◌≡◌, ℕ, Bool, true, false, List, Some, sym, ap, ◌∙◌, subst}
use Rattle.tx_machine.specs.Actor.{Actor}
use Rattle.seq_model.specs.declared.held.Held.{Held}
use Rattle.seq_model.specs.declared.event.Event.{Event}
use Rattle.tx_machine.specs.Boosted.{Action, TakeGate, PutGate, GoHome, is_actor, is_committing, is_stored}
use Rattle.replay_log.specs.Contents.{CollectionCall, Block, HaveStripes}
use Rattle.replay_log.specs.Guards.{IsAllowed, step_action}
use Rattle.replay_log.specs.Seats.{World, Stage, Ready, moves, actor_of}
use Rattle.replay_log.specs.Worlds.{opened, run}
use Rattle.replay_log.proofs.GuardLemmas.{world_allows}
use Rattle.actor_laws.specs.Gates.{Tries, Puts, GoesHome}
use Rattle.actor_laws.specs.Own.{Alike}
use Rattle.actor_laws.specs.Steps.{atomic_action}
use Rattle.actor_laws.proofs.Alike.{action_same}

module _ {V : Type 0} where
  -- but for the first value store the action is that of the next step
  due : (v : World V) (a : ℕ) (p : Stage V) (d : Action (CollectionCall V)) → (Some (moves a) ≡ Some d → ⊥) → atomic_action a v p ≡ Some d
      → step_action v a p ≡ Some d
  due v a (Ready ks) d out e = absurd (out e)
  due v a p d out e = e

  module _ (blocks : List Block) (clock : ℕ) (values : List ℕ) (held : List (Held V)) (events : List (Event V)) (a k : ℕ) (t : World V)
      (stripes : HaveStripes blocks) (alike : Alike a (run (opened blocks clock values held) events) t) where
    abbrev reached : World V
    reached = run (opened blocks clock values held) events

    allowed : (d : Action (CollectionCall V)) → (Some (moves a) ≡ Some d → ⊥) → atomic_action a t (t.seats a).stage ≡ Some d
        → IsAllowed reached (reached.seats a).stage (Some d)
    allowed d out e =
        subst (IsAllowed reached (reached.seats a).stage) (due reached a (reached.seats a).stage d out (action_same a reached t alike ∙ e))
        (world_allows blocks clock values held events a stripes)

    by_place : (test : Actor → Bool) (b : Bool) → test (actor_of reached a) ≡ b → test (actor_of t a) ≡ b
    by_place test b h = ap test (sym alike.boosted.actor) ∙ h

    pub try_allowed : Tries t a k → is_committing (actor_of t a).place ≡ false
    try_allowed e = by_place (λ x. is_committing x.place) false (allowed (TakeGate a k) (λ z. cc) e)

    pub put_allowed : Puts t a k → (is_actor a (t.boosted.gates k) ≡ true) × (is_committing (actor_of t a).place ≡ false)
    put_allowed (which, e) =
        let h = allowed (PutGate a k which) (λ z. cc) e in
        (sym (alike.boosted.gates k) ∙ h.0, by_place (λ x. is_committing x.place) false h.1)

    pub home_allowed : GoesHome t a k → (is_actor a (t.boosted.gates k) ≡ true) × (is_stored (actor_of t a).place ≡ true)
    home_allowed e =
        let h = allowed (GoHome a k) (λ z. cc) e in
        (sym (alike.boosted.gates k) ∙ h.0, by_place (λ x. is_stored x.place) true h.1)
