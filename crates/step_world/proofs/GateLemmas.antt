-- A step of a call on a collection, which copies it under its gate or loads one of its locations, leaves its actor without a gate.
--
-- A load changes no gate, and its actor holds none; what is copied is copied as the gate is put back, which was the only one that its actor
-- held. So the actor has no base left to put back.
use Rattle.std.proofs.Common.{◌≡◌, ◌≢◌, ℕ, true, false, true≢false, [], ◌∷◌, None, inl, inr, refl, sym, ap, ◌∙◌, subst, eqb, eqb-true}
use Rattle.std.proofs.lemmas.Bool.{cases_Bool, cases_eq, cond-false}
use Rattle.tx_machine.specs.Cells.{word_of}
use Rattle.seq_model.specs.Contents.{Contents}
use Rattle.seq_model.specs.declared.event.Event.{Event}
use Rattle.seq_model.specs.declared.event.Event.TheVariants.{Step}
use Rattle.tx_machine.specs.Boosted.{is_actor}
use Rattle.tx_machine.specs.Content.{has}
use Rattle.replay_log.specs.Contents.{CollectionCall}
use Rattle.replay_log.specs.Pieces.{covers_at}
use Rattle.replay_log.specs.WorldProgress.{whose}
use Rattle.replay_log.specs.Worlds.{World, Stage}
use Rattle.replay_log.specs.Worlds.{Copying, Loading, happens, opened, run}
use Rattle.replay_log.proofs.SeatLemmas.{gates_of}
use Rattle.actor_laws.specs.Gates.{Puts}
use Rattle.actor_laws.specs.StepTargets.{Gate, deed_of, spot_at}
use Rattle.actor_laws.specs.Steps.{atomic_action}
use Rattle.actor_laws.proofs.Alike.{alike_same}
use Rattle.actor_laws.proofs.Guards.{put_allowed}
use Rattle.actor_laws.proofs.StepTargets.{one_spot}
use Rattle.actor_laws.proofs.StepResult.{put_turned}
use Rattle.actor_parts.specs.Dispatch.{is_loading, next_of}
use Rattle.actor_parts.specs.declared.next.Next.TheVariants as next
use Rattle.tx_actor.specs.Running.{Runs, stage_of}
use Rattle.tx_actor.specs.declared.actor.TxActor.{TxActor}
use Rattle.actor_parts.specs.declared.table.Table.{Table}
use Rattle.step_world.specs.Reached.{IsReached}
use Rattle.step_world.specs.Turns.{KeepsRoom}
use Rattle.step_world.proofs.RoomLemmas.{gate_left, linked_after, room_none, room_same}
use Rattle.tx_actor.proofs.SeatLemmas.{loading_as, next_as}
use Rattle.tx_actor.proofs.StepLemmas.{reached_linked}
use Rattle.tx_actor.proofs.CopyLemmas.{copy_is}
use Rattle.tx_actor.proofs.GatesLemmas.{no_word}

not_has : (j k : ℕ) → j ≢ k → has (k ∷ []) j ≡ false
not_has j k ne = elim (cases_Bool (eqb j k)) [
  | inl t ↦ absurd (ne (eqb-true j k t))
  | inr f ↦ cond-false (eqb j k) true false f
]

module _ {V : Type 0} where
  gateless : (e : Event V) (t u : Table V) (r s : TxActor V) → u.bases ≡ t.bases
      → ((o : Contents V) (w : World V) → IsReached o w → Runs (whose e) r w → (k : ℕ)
      → is_actor (whose e) ((happens w e).0.boosted.gates k) ≡ false) → KeepsRoom e t r u s
  gateless e t u r s same free = record {
    own = λ o w reached runs after h. room_none u s (λ k c.
        true≢false (sym (gate_left (happens w e).0 (whose e) k s (linked_after o w e reached) after c) ∙ free o w reached runs k));
    others = λ o w b q reached runs there h. room_same t u q same h;
  }

  -- ---- a load
  loading_spot : (w : World V) (a k : ℕ) (s : Stage V) → is_loading s ≡ true → spot_at a w s ≡ Gate k → ⊥
  loading_spot w a k (Loading o []) l e = let z : ⊥ = cc in z
  loading_spot w a k (Loading o (d ∷ es)) l e = no_word (word_of (deed_of w a)) k e
  loading_spot w a k s l e = true≢false (sym l)

  loading_none : (s : Stage V) (k : ℕ) → is_loading s ≡ true → has (gates_of s) k ≡ false
  loading_none (Loading o es) k l = refl
  loading_none s k l = absurd (true≢false (sym l))

  pub room_load : (a : ℕ) (t u : Table V) (r s : TxActor V) → u.bases ≡ t.bases → is_loading (stage_of r.stage) ≡ true
      → KeepsRoom (Step a) t r u s
  room_load a t u r s same loading = gateless (Step a) t u r s same (λ o w reached runs k. (
      let at : is_loading (w.seats a).stage ≡ true = loading_as w a r runs ∙ loading in
      ap (is_actor a) ((one_spot w a).gates k (loading_spot w a k (w.seats a).stage at))
      ∙ ((reached_linked o w reached).seats a).gates k ∙ loading_none (w.seats a).stage k at))

  -- ---- a copy
  copy_frees : (o : Contents V) (w : World V) (a k : ℕ) → IsReached o w → Puts w a k → (happens w (Step a)).0.boosted.gates k ≡ None
  copy_frees o w a k h =
      subst (λ (z : World V). Puts z a k → (happens z (Step a)).0.boosted.gates k ≡ None) h.world
      (λ puts. (
      let here : World V = run (opened h.blocks h.clock o.words o.held) h.events in
      let guard = put_allowed h.blocks h.clock o.words o.held h.events a k here h.stripes (alike_same a here) puts in
      (put_turned a here k puts guard.0 guard.1).gate))

  copy_apart : (w : World V) (a j : ℕ) (asked : CollectionCall V) → j ≢ asked.collection → spot_at a w (Copying asked) ≡ Gate j → ⊥
  copy_apart w a j asked ne e = (let z : Gate asked.collection ≡ Gate j = e in let same : asked.collection ≡ j = cc in ne (sym same))

  pub room_copy : (a k : ℕ) (t u : Table V) (r s : TxActor V) → u.bases ≡ t.bases → next_of (stage_of r.stage) ≡ next.Copy k
      → KeepsRoom (Step a) t r u s
  room_copy a k t u r s same due = gateless (Step a) t u r s same (λ o w reached runs j. (
      let v = (happens w (Step a)).0 in
      let copy = copy_is (w.seats a).stage k (next_as w a r runs ∙ due) in
      let asked = copy.0 in
      let puts : Puts w a asked.collection =
      (covers_at w.words w.blocks asked, ap (λ (p : Stage V). atomic_action a w p) copy.1) in
      elim (cases_eq j asked.collection) [
        | inl e ↦ ap (λ (n : ℕ). is_actor a (v.boosted.gates n)) e ∙ ap (is_actor a) (copy_frees o w a asked.collection reached puts)
        | inr ne ↦
            let apart : spot_at a w (w.seats a).stage ≡ Gate j → ⊥ =
            λ q. copy_apart w a j asked ne (subst (λ (p : Stage V). spot_at a w p ≡ Gate j) copy.1 q) in
            ap (is_actor a) ((one_spot w a).gates j apart)
            ∙ ((reached_linked o w reached).seats a).gates j ∙ ap (λ (p : Stage V). has (gates_of p) j) copy.1
            ∙ not_has j asked.collection ne
      ]))
