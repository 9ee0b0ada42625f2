-- Worlds that are alike to an actor, and what is next for it there.
--
-- To be alike is an equivalence. The action that is next, its spot and its deed are read from the actor's stage and record and from the
-- shape, so they are the same in worlds that are alike to the actor.
use Rattle.std.proofs.Common.{◌≡◌, ℕ, Option, Some, None, refl, sym, ap, ◌∙◌, subst}
use Rattle.tx_machine.specs.Actor.{Actor}
use Rattle.tx_machine.specs.Requests as word
use Rattle.tx_machine.specs.World.{plan}
use Rattle.tx_machine.specs.Cells.{word_of}
use Rattle.tx_machine.specs.Boosted.{Action, OnWords, TakeGate, PutGate, Accept, GoHome}
use Rattle.replay_log.specs.Contents.{CollectionCall}
use Rattle.replay_log.specs.Pieces.{covers_at}
use Rattle.replay_log.specs.Seats.{World, Seat, Stage, Copying, Ready}
use Rattle.actor_laws.specs.Own.{Alike}
use Rattle.actor_laws.specs.Steps.{atomic_action, ready_at}
use Rattle.actor_laws.specs.StepTargets.{spot_of, deed_of, spot_by, spot_at}
use Rattle.actor_laws.proofs.OwnEvents.{asks_alike}

module _ {V : Type 0} where
  pub alike_same : (a : ℕ) (v : World V) → Alike a v v
  alike_same a v = record {
    words = refl;
    blocks = refl;
    seat = refl;
    boosted = record { actor = refl; shadow = refl; gates = λ k. refl; opening = refl; first = refl };
  }

  pub alike_sym : (a : ℕ) (v u : World V) → Alike a v u → Alike a u v
  alike_sym a v u e = record {
    words = sym e.words;
    blocks = sym e.blocks;
    seat = sym e.seat;
    boosted = record {
      actor = sym e.boosted.actor;
      shadow = sym e.boosted.shadow;
      gates = λ k. sym (e.boosted.gates k);
      opening = sym e.boosted.opening;
      first = sym e.boosted.first;
    };
  }

  pub alike_trans : (a : ℕ) (v u t : World V) → Alike a v u → Alike a u t → Alike a v t
  alike_trans a v u t g h = record {
    words = g.words ∙ h.words;
    blocks = g.blocks ∙ h.blocks;
    seat = g.seat ∙ h.seat;
    boosted = record {
      actor = g.boosted.actor ∙ h.boosted.actor;
      shadow = g.boosted.shadow ∙ h.boosted.shadow;
      gates = λ k. g.boosted.gates k ∙ h.boosted.gates k;
      opening = g.boosted.opening ∙ h.boosted.opening;
      first = g.boosted.first ∙ h.boosted.first;
    };
  }

  pub stage_same : (a : ℕ) (v w : World V) → Alike a v w → (v.seats a).stage ≡ (w.seats a).stage
  stage_same a v w e = ap (λ (x : Seat V). x.stage) e.seat

  pub ready_alike : (a : ℕ) (v w : World V) (p : Stage V) → Alike a v w → Alike a (ready_at a v p) (ready_at a w p)
  ready_alike a v w (Ready ks) e = asks_alike a v w word.AskStore e
  ready_alike a v w p e = e

  action_at : (a : ℕ) (v w : World V) (p : Stage V) → Alike a v w → atomic_action a v p ≡ atomic_action a w p
  action_at a v w (Copying q) e = λ i. Some (PutGate a q.collection (covers_at (e.words i) (e.blocks i) q))
  action_at a v w p e = refl

  pub action_same : (a : ℕ) (v w : World V) → Alike a v w → atomic_action a v (v.seats a).stage ≡ atomic_action a w (w.seats a).stage
  action_same a v w e = action_at a v w (v.seats a).stage e ∙ ap (atomic_action a w) (stage_same a v w e)

  -- the world in which the action is done
  pub ready_same : (a : ℕ) (v w : World V) → Alike a v w → Alike a (ready_at a v (v.seats a).stage) (ready_at a w (w.seats a).stage)
  ready_same a v w e = subst (λ (p : Stage V). Alike a (ready_at a v (v.seats a).stage) (ready_at a w p)) (stage_same a v w e)
      (ready_alike a v w (v.seats a).stage e)

  spot_alike : (a : ℕ) (v w : World V) (d : Option (Action (CollectionCall V))) → Alike a v w → spot_by a v d ≡ spot_by a w d
  spot_alike a v w (Some (OnWords e)) h = ap (λ (x : Actor). spot_of (word_of (plan x x.place))) h.boosted.actor
  spot_alike a v w (Some (TakeGate b k)) h = refl
  spot_alike a v w (Some (PutGate b k which)) h = refl
  spot_alike a v w (Some (Accept b q)) h = refl
  spot_alike a v w (Some (GoHome b k)) h = refl
  spot_alike a v w None h = refl

  pub spot_same : (a : ℕ) (v w : World V) → Alike a v w → spot_at a v (v.seats a).stage ≡ spot_at a w (w.seats a).stage
  spot_same a v w e =
      spot_alike a _ _ (atomic_action a v (v.seats a).stage) (ready_same a v w e)
      ∙ ap (spot_by a (ready_at a w (w.seats a).stage)) (action_same a v w e)

  pub deed_same : (a : ℕ) (v w : World V) → Alike a v w → deed_of (ready_at a v (v.seats a).stage) a
      ≡ deed_of (ready_at a w (w.seats a).stage) a
  deed_same a v w e = ap (λ (x : Actor). plan x x.place) (ready_same a v w e).boosted.actor
