-- What holds of the turns since some seat holds of those since an earlier one, of which they are the last.
use Rattle.std.proofs.Common.{◌≡◌, ℕ, List, ◌∷◌, ◌++◌, ap, ◌∙◌, subst}
use Rattle.std.proofs.lemmas.List.{append_assoc}
use Rattle.seq_model.specs.declared.event.Event.TheVariants.{Step}
use Rattle.seq_model.specs.declared.refusal.Refusal.{Refusal}
use Rattle.replay_log.specs.Seats.{World}
use Rattle.replay_log.specs.Worlds.{happens}
use Rattle.replay_log.specs.WorldRefusals.{IsCause}
use Rattle.actor_laws.specs.Own.{Alike}
use Rattle.tx_actor.specs.Running.{notice_of}
use Rattle.tx_actor.specs.declared.actor.ActorNotice.{ActorNotice}
use Rattle.shared_table.specs.declared.seat.Seat as table
use Rattle.shared_table.specs.declared.view.Turn.{Turn}
use Rattle.shared_table.specs.Seated.{view}
use Rattle.shared_table.specs.Seated as seated
use Rattle.shared_table.specs.Turns.{asked_all, lone}
use Rattle.tx_turns.specs.Driven.{HasFound, HasTold, IsExhausted, IsTurnFrom}

module _ {V : Type 0} (o : World V) (s m : table.Seat V) (same : seated.actor m ≡ seated.actor s) (more : List (Turn V))
    (turns : (view m).turns ≡ (view s).turns ++ more) where
  -- a turn since then is one since before
  turn_back : (u : table.Seat V) (v : World V) → IsTurnFrom o m u v → IsTurnFrom o s u v
  turn_back u v h = record {
    before = more ++ h.before;
    turn = h.turn;
    after = h.after;
    turns = h.turns ∙ ap (λ (is : List (Turn V)). is ++ h.turn ∷ h.after) joined;
    events = h.events;
    reached = h.reached;
    alike = subst (λ (k : ℕ × List (Turn V)). Alike k.0 v (asked_all k.0 (lone k.0 o k.1) h.turn.asks))
        (λ i. (same i, joined i)) h.alike;
  }
    where
      joined : (view m).turns ++ h.before ≡ (view s).turns ++ (more ++ h.before)
      joined = ap (λ (is : List (Turn V)). is ++ h.before) turns ∙ append_assoc (view s).turns more h.before

  -- what was found since then was found since before
  pub found_back : (u : table.Seat V) (cause : Refusal) → HasFound o m u cause → HasFound o s u cause
  found_back u cause h = (
    h.0,
    turn_back u h.0 h.1,
    subst (λ (k : ℕ). IsCause h.0 k (h.0.seats k).stage (happens h.0 (Step k)).0 cause) same h.2,
  )

  pub told_back : (u : table.Seat V) (n : ActorNotice V) → HasTold o m u n → HasTold o s u n
  told_back u n h = (
    h.0,
    turn_back u h.0 h.1,
    subst (λ (k : ℕ). (happens h.0 (Step k)).1 ≡ notice_of k n) same h.2,
  )

  pub exhausted_back : (u : table.Seat V) (cause : Refusal) → IsExhausted o m u cause → IsExhausted o s u cause
  exhausted_back u cause h = (h.0, turn_back u h.0 h.1, h.2, h.3, h.4)
