-- What the other actors have of their own stands.
--
-- An atomic action of one actor leaves the others' records and shadows. A gate that it takes was free, one that it gives back was its
-- own, so no gate of another comes or goes. What follows the action leaves the others by `one_step`.
use Rattle.std.proofs.Common.{◌≡◌, ◌≢◌, ℕ, Bool, true, false, ◌&&◌, List, [], ◌∷◌, Option, Some, None, ⊎_elim, refl, sym, ap, ◌∙◌, subst}
use Rattle.std.proofs.Common.{ne_eqb, eqb-true, true≢false}
use Rattle.std.specs.Prelude.{if◌then◌else◌, not}
use Rattle.std.proofs.lemmas.Bool.{cond_both, cases_eq}
use Rattle.tx_machine.specs.Actor.{Actor, Place, Begin}
use Rattle.tx_machine.specs.Requests as word
use Rattle.tx_machine.specs.World as machine
use Rattle.tx_machine.specs.World.{StepEnd, GoesOn, Commits, Aborts, step_end, step, put}
use Rattle.tx_machine.proofs.AnswerBound.{step_other}
use Rattle.tx_machine.proofs.Sets.{put-same, put-other}
use Rattle.seq_model.specs.declared.event.Event.{Event}
use Rattle.seq_model.specs.declared.event.Event.TheVariants.{Ask, Step, Starve}
use Rattle.tx_machine.specs.Boosted.{Boosted, Shadow, Action, OnWords, TakeGate, PutGate, Accept, GoHome, is_actor, is_none}
use Rattle.tx_machine.specs.Boosted.{is_open, is_stored, is_committing, fresh, shadows_after, recorded, word_step, gated, homed}
use Rattle.tx_machine.specs.Boosted.{copied}
use Rattle.replay_log.specs.Base.{Shown}
use Rattle.replay_log.specs.Contents.{CollectionCall, CallWithOutcome, content}
use Rattle.replay_log.specs.WorldProgress.{whose}
use Rattle.replay_log.specs.Seats.{World, Seat, Stage, Closing, Leaving, Ready, acted}
use Rattle.replay_log.specs.Worlds.{happens}
use Rattle.actor_laws.specs.Machine.{AlikeBelow}
use Rattle.actor_laws.specs.Own.{Alike}
use Rattle.actor_laws.specs.Steps.{OnlyOwn, IsAtomic, atomic_action, ready_at, ended_at, Does}
use Rattle.actor_laws.proofs.Alike.{alike_trans}
use Rattle.actor_laws.proofs.OneStep.{nothing, ask_calm, one_step}

-- a gate that becomes a's, or nobody's, was not b's before and is not b's after
not_held : (a b : ℕ) (o : Option ℕ) → is_none o ≡ true → b ≢ a → is_actor b o ≡ is_actor b (Some a)
not_held a b None e ne = sym (ne_eqb b a ne)
not_held a b (Some c) e ne = absurd (true≢false (sym e))

given_back : (a b : ℕ) (o : Option ℕ) → is_actor a o ≡ true → b ≢ a → is_actor b o ≡ is_actor b None
given_back a b None e ne = refl
given_back a b (Some c) e ne = ne_eqb b c (λ q. ne (q ∙ sym (eqb-true a c e)))

and_first : (x y : Bool) → (x && y) ≡ true → x ≡ true
and_first true y e = refl
and_first false y e = e

-- the gate k becomes o
gate_put : (b k : ℕ) (f : ℕ → Option ℕ) (o : Option ℕ) → is_actor b (f k) ≡ is_actor b o → (j : ℕ) → is_actor b (f j)
    ≡ is_actor b (put f k o j)
gate_put b k f o e j = ⊎_elim
    (λ (q : j ≡ k). ap (λ (z : ℕ). is_actor b (f z)) q
    ∙ (e ∙ (sym (ap (is_actor b) (put-same f k o)) ∙ sym (ap (λ (z : ℕ). is_actor b (put f k o z)) q))))
    (λ (ne : j ≡ k → ⊥). sym (ap (is_actor b) (put-other f k o j ne)))
    (cases_eq j k)

module _ {X Out : Type 0} (a b : ℕ) (ne : b ≢ a) where
  stays : (s : Boosted X Out) → AlikeBelow b s s
  stays s = record { actor = refl; shadow = refl; gates = λ k. refl; opening = refl; first = refl }

  shadow_stands : (s : Boosted X Out) (p : Place) → s.shadows b ≡ shadows_after s a p b
  shadow_stands s Begin = cond_both {A = ℕ → Shadow X Out} _ (put s.shadows a (fresh s)) s.shadows (λ f. s.shadows b ≡ f b)
      (λ _. sym (put-other s.shadows a (fresh s) b ne)) (λ _. refl)
  shadow_stands s p = refl

  recorded_stands : (s t : Boosted X Out) (os : List Out) (o : StepEnd) → AlikeBelow b s t → AlikeBelow b s (recorded t os o)
  recorded_stands s t os GoesOn e = e
  recorded_stands s t os (Commits r) e = record {
    actor = e.actor;
    shadow = e.shadow;
    gates = e.gates;
    opening = e.opening;
    first = e.first;
  }
  recorded_stands s t os (Aborts r) e = record { actor = e.actor; shadow = e.shadow; gates = e.gates; opening = e.opening; first = e.first }

  step_stands : (s : Boosted X Out) → AlikeBelow b s (word_step s a (s.words.actors a) (s.words.actors a).place)
  step_stands s =
      let x : Actor = s.words.actors a in
      recorded_stands s (record s { words = step s.words a x x.place; shadows = shadows_after s a x.place }) (s.shadows a).outcomes
      (step_end a x x.place)
      (record {
        actor = sym (step_other s.words a b ne);
        shadow = shadow_stands s x.place;
        gates = λ k. refl;
        opening = refl;
        first = refl;
      })

module _ {V : Type 0} (a b : ℕ) (ne : b ≢ a) where
  pub calm_alike : (v u : World V) → OnlyOwn a v u → Alike b v u
  calm_alike v u h = record {
    words = sym h.words;
    blocks = sym h.blocks;
    seat = sym (h.seats b ne);
    boosted = record {
      actor = sym (h.actors b ne);
      shadow = sym (h.shadows b ne);
      gates = λ k. ap (is_actor b) (sym (h.gates k));
      opening = sym h.opening;
      first = sym h.first;
    };
  }

  -- where the boosted part stands for b
  with_boosted : (v : World V) (s : Boosted (Shown V) (CallWithOutcome V)) → AlikeBelow b v.boosted s → Alike b v (record v { boosted = s })
  with_boosted v s e = record { words = refl; blocks = refl; seat = refl; boosted = e }

  take_stands : (v : World V) (k : ℕ) → Alike b v (acted v (TakeGate a k ∷ []))
  take_stands v k =
      let s : Boosted (Shown V) (CallWithOutcome V) = v.boosted in
      cond_both {A = Boosted (Shown V) (CallWithOutcome V)} (is_none (s.gates k) && not (is_committing (s.words.actors a).place))
      (gated s (put s.gates k (Some a)) s.shadows) s (λ t. Alike b v (record v { boosted = t }))
      (λ e. with_boosted v _ (record {
        actor = refl;
        shadow = refl;
        gates = gate_put b k s.gates (Some a)
            (not_held a b (s.gates k) (and_first _ _ e) ne);
        opening = refl;
        first = refl;
      }))
      (λ _. with_boosted v s (stays a b ne s))

  put_stands : (v : World V) (k : ℕ) (which : ℕ → Bool) → Alike b v (acted v (PutGate a k which ∷ []))
  put_stands v k which =
      let s : Boosted (Shown V) (CallWithOutcome V) = v.boosted in
      let c = content {V = V} v.words v.blocks in
      let f : ℕ → Shadow (Shown V) (CallWithOutcome V) = if is_open (s.words.actors a).place then put s.shadows a
      (copied c s (s.words.actors a).calls (s.shadows a) k which) else s.shadows in
      let same : s.shadows b ≡ f b = cond_both {A = ℕ → Shadow (Shown V) (CallWithOutcome V)} (is_open (s.words.actors a).place)
      (put s.shadows a (copied c s (s.words.actors a).calls (s.shadows a) k which)) s.shadows (λ g. s.shadows b ≡ g b)
      (λ _. sym (put-other s.shadows a _ b ne)) (λ _. refl) in
      cond_both {A = Boosted (Shown V) (CallWithOutcome V)} (is_actor a (s.gates k) && not (is_committing (s.words.actors a).place))
      (gated s (put s.gates k None) f) s (λ t. Alike b v (record v { boosted = t }))
      (λ e. with_boosted v _ (record {
        actor = refl;
        shadow = same;
        gates = gate_put b k s.gates None
            (given_back a b (s.gates k) (and_first _ _ e) ne);
        opening = refl;
        first = refl;
      }))
      (λ _. with_boosted v s (stays a b ne s))

  home_stands : (v : World V) (k : ℕ) → Alike b v (acted v (GoHome a k ∷ []))
  home_stands v k =
      let s : Boosted (Shown V) (CallWithOutcome V) = v.boosted in
      cond_both {A = Boosted (Shown V) (CallWithOutcome V)} (is_actor a (s.gates k) && is_stored (s.words.actors a).place)
      (homed (content {V = V} v.words v.blocks) s a k) s (λ t. Alike b v (record v { boosted = t }))
      (λ e. with_boosted v _ (record {
        actor = refl;
        shadow = refl;
        gates = gate_put b k s.gates None
            (given_back a b (s.gates k) (and_first _ _ e) ne);
        opening = refl;
        first = refl;
      }))
      (λ _. with_boosted v s (stays a b ne s))

  atomic_stands : (v : World V) (d : Action (CollectionCall V)) → IsAtomic a d → Alike b v (acted v (d ∷ []))
  atomic_stands v (OnWords (machine.Ask i q)) h = absurd h
  atomic_stands v (OnWords (machine.Step i)) h = subst (λ (z : ℕ). Alike b v (acted v (OnWords (machine.Step z) ∷ []))) (sym h)
      (with_boosted v _ (step_stands a b ne v.boosted))
  atomic_stands v (TakeGate i k) h = subst (λ (z : ℕ). Alike b v (acted v (TakeGate z k ∷ []))) (sym h) (take_stands v k)
  atomic_stands v (PutGate i k which) h = subst (λ (z : ℕ). Alike b v (acted v (PutGate z k which ∷ []))) (sym h) (put_stands v k which)
  atomic_stands v (Accept i q) h = absurd h
  atomic_stands v (GoHome i k) h = subst (λ (z : ℕ). Alike b v (acted v (GoHome z k ∷ []))) (sym h) (home_stands v k)

  ready_stands : (v : World V) (p : Stage V) → Alike b v (ready_at a v p)
  ready_stands v (Ready ks) = calm_alike v _ (ask_calm a v word.AskStore)
  ready_stands v p = calm_alike v v (nothing a v)

  noted_stands : (v t : World V) (x : Seat V) (p : Stage V) → Alike b v t → Alike b v (ended_at a x p t)
  noted_stands v t x (Ready ks) e = record { words = e.words; blocks = e.blocks; seat = e.seat; boosted = e.boosted }
  noted_stands v t x Closing e = record { words = e.words; blocks = e.blocks; seat = e.seat; boosted = e.boosted }
  noted_stands v t x Leaving e = record { words = e.words; blocks = e.blocks; seat = e.seat; boosted = e.boosted }
  noted_stands v t x p e = e

  action_stands : (v u : World V) (x : Seat V) (p : Stage V) (d : Option (Action (CollectionCall V))) → Does a v x p d u → Alike b v u
  action_stands v u x p None g = calm_alike v u g
  action_stands v u x p (Some d) (h, g) =
      let t : World V = acted v (d ∷ []) in
      alike_trans b v (ended_at a x p t) u (noted_stands v t x p (atomic_stands v d h)) (calm_alike _ u g)

pub others : {V : Type 0} → (v : World V) (event : Event V) (b : ℕ) → b ≢ whose event → Alike b v (happens v event).0
others v (Ask a q) b ne = calm_alike a b ne v _ (one_step v (Ask a q))
others v (Step a) b ne =
    let p = (v.seats a).stage in
    alike_trans b v (ready_at a v p) (happens v (Step a)).0 (ready_stands a b ne v p)
    (action_stands a b ne (ready_at a v p) (happens v (Step a)).0 (v.seats a) p (atomic_action a v p) (one_step v (Step a)))
others v (Starve a) b ne = calm_alike a b ne v _ (one_step v (Starve a))
