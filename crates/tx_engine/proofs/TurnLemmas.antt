-- How often a seat's own turns tried a gate.
--
-- In the world with an actor alone, a try that fails leaves one try less, and no other turn leads to a try but to the first of a request
-- (`stepped_turns`). A try that fails moves no gate. So where the last try is next, and the actor does not have the gate, it had it at none
-- of the tries before; and a gate that it does not have is not free to it only where its word was not 0. Between its requests a seat tries
-- no gate, so these turns came later.
use Rattle.std.proofs.Common.{◌≡◌, ◌≢◌, ℕ, suc, ◌+◌, true, false, List, [], ◌∷◌, ◌++◌, Option, Some, None, length, inl, inr}
use Rattle.std.proofs.Common.{refl, sym, ap, ◌∙◌, subst, append_assoc, length-append, true≢false, eq-eqb, arith}
use Rattle.std.specs.Prelude.{◌==◌, if◌then◌else◌}
use Rattle.std.proofs.lemmas.Bool.{cond-true, cond-false}
use Rattle.std.proofs.lemmas.List.{append-nil}
use Rattle.tx_machine.proofs.Sets.{put-same}
use Rattle.seq_model.specs.declared.event.Event.{Event}
use Rattle.seq_model.specs.declared.event.Event.TheVariants.{Ask, Step, Starve}
use Rattle.tx_machine.specs.Boosted.{Action, TakeGate, is_actor, is_none}
use Rattle.replay_log.specs.declared.base.Base.{Base}
use Rattle.replay_log.specs.Contents.{CollectionCall}
use Rattle.replay_log.specs.WorldTries.{tried_at}
use Rattle.replay_log.specs.Worlds.{World, Seat, Stage, Trying, Gating, Storing, Homing, Releasing, happens, is_half_done, more_tries}
use Rattle.replay_log.specs.Worlds.{step_at}
use Rattle.replay_log.proofs.RecordLemmas.{IsAhead, IsTriedAgain, Kept, asked_kept, starved_kept, stepped_turns}
use Rattle.actor_laws.specs.Gates.{Tries}
use Rattle.actor_laws.specs.Own.{Alike}
use Rattle.actor_laws.specs.StepTargets.{Gate, found_gate}
use Rattle.actor_laws.specs.Steps.{atomic_action}
use Rattle.actor_laws.proofs.Alike.{alike_same}
use Rattle.shared_table.specs.Turns.{asked_all, found_at, lone, own, spot, stage_of, took}
use Rattle.shared_table.specs.declared.view.Turn.{Turn}
use Rattle.shared_table.proofs.Gates.{tries_spot}
use Rattle.shared_table.proofs.Turned.{found_alike, lone_snoc}
use Rattle.tx_engine.specs.Tries.{AreVain}

some_pair : (i j k n : ℕ) → ◌≡◌ {A = Option (ℕ × ℕ)} (Some (i, j)) (Some (k, n)) → (i ≡ k) × (j ≡ n)
some_pair i j k n e = (ap (λ (o : Option (ℕ × ℕ)). first o) e, ap (λ (o : Option (ℕ × ℕ)). second o) e)
  where
    first : Option (ℕ × ℕ) → ℕ
    first (Some p) = p.0
    first None = 0

    second : Option (ℕ × ℕ) → ℕ
    second (Some p) = p.1
    second None = 0

module _ {V : Type 0} where
  -- ---- lists of turns
  pub lone_append : (a : ℕ) (is js : List (Turn V)) (w : World V) → lone a w (is ++ js) ≡ lone a (lone a w is) js
  lone_append a [] js w = refl
  lone_append a (i ∷ is) js w = lone_append a is js (took a w i)

  abbrev IsVain : (a k : ℕ) → World V → Turn V → Type 0
  IsVain a k w i = Tries (asked_all a w i.asks) a k × (i.found ≢ 0)

  vain_more : (a k : ℕ) (is : List (Turn V)) (i : Turn V) (w : World V) → AreVain a k w is → IsVain a k (lone a w is) i
      → AreVain a k w (is ++ i ∷ [])
  vain_more a k [] i w h g = (g.0, g.1, tt)
  vain_more a k (j ∷ is) i w h g = (h.0, h.1, vain_more a k is i (took a w j) h.2 g)

  -- the last m of these turns from w on tried the gate of k in vain
  pub record LastVain (a k m : ℕ) (w : World V) (turns : List (Turn V)) : Type 0 where
    pub first : List (Turn V)
    pub tries : List (Turn V)
    pub split : turns ≡ first ++ tries
    pub count : length tries ≡ m
    pub vain : AreVain a k (lone a w first) tries

  none_yet : (a k : ℕ) (w : World V) (is : List (Turn V)) → LastVain a k 0 w is
  none_yet a k w is = record { first = is; tries = []; split = sym (append-nil is); count = refl; vain = tt }

  one_more : (a k m : ℕ) (w : World V) (is : List (Turn V)) (i : Turn V) → LastVain a k m w is → IsVain a k (lone a w is) i
      → LastVain a k (m + 1) w (is ++ i ∷ [])
  one_more a k m w is i h g = record {
    first = h.first;
    tries = h.tries ++ i ∷ [];
    split = ap (λ (js : List (Turn V)). js ++ i ∷ []) h.split ∙ append_assoc h.first h.tries (i ∷ []);
    count = (let e = length-append h.tries (i ∷ []) in let n = h.count in omega (arith, e, n));
    vain = vain_more a k h.tries i (lone a w h.first) h.vain
        (subst (λ (u : World V). IsVain a k u i) (ap (lone a w) h.split ∙ lone_append a h.first h.tries w) g);
  }

  -- ---- what has been tried where a try is next, of a gate that the actor does not have
  abbrev IsTried : (a k n : ℕ) → World V → List (Turn V) → Type 0
  IsTried a k n w is = (m : ℕ) × (m + n ≡ more_tries) × LastVain a k m w is

  abbrev TriedAt : World V → List (Turn V) → ℕ → World V → Stage V → Type 0
  TriedAt w is a u st = (k n : ℕ) → tried_at st ≡ Some (k, n) → is_actor a (u.boosted.gates k) ≡ false → IsTried a k n w is

  abbrev pub Tried : World V → List (Turn V) → ℕ → World V → Type 0
  Tried w is a u = TriedAt w is a u (stage_of u a)

  first_try : (w : World V) (is : List (Turn V)) (a : ℕ) (u : World V) (st : Stage V) → IsAhead st → TriedAt w is a u st
  first_try w is a u (Trying asked tries) h k n at free =
      (0, (let e = (some_pair asked.collection tries k n at).1 in omega (arith, e, h)), none_yet a k w is)
  first_try w is a u (Gating got (i ∷ ks) tries) h k n at free =
      (0, (let e = (some_pair i tries k n at).1 in omega (arith, e, h)), none_yet a k w is)
  first_try w is a u st h k n at free = absurd (let b : ⊥ = cc in b)

  half_tries_none : (w : World V) (is : List (Turn V)) (a : ℕ) (u : World V) (st : Stage V) → is_half_done st ≡ true → TriedAt w is a u st
  half_tries_none w is a u (Storing ks) h k n at free = absurd (let b : ⊥ = cc in b)
  half_tries_none w is a u (Homing ks) h k n at free = absurd (let b : ⊥ = cc in b)
  half_tries_none w is a u Releasing h k n at free = absurd (let b : ⊥ = cc in b)
  half_tries_none w is a u st h k n at free = absurd (true≢false (sym h))

  -- ---- what is asked
  kept_tried : (w : World V) (is : List (Turn V)) (a : ℕ) (u t : World V) → Kept a u t → Tried w is a u → Tried w is a t
  kept_tried w is a u t (inl same) old = subst (Tried w is a) (sym same) old
  kept_tried w is a u t (inr begun) old = first_try w is a t (stage_of t a) begun.seat

  one_tried : (w : World V) (is : List (Turn V)) (a : ℕ) (u : World V) (e : Event V) → Tried w is a u
      → Tried w is a (happens u (own a e)).0
  one_tried w is a u (Ask b q) old = kept_tried w is a u _ (asked_kept u a q) old
  one_tried w is a u (Step b) old = kept_tried w is a u _ (starved_kept u a) old
  one_tried w is a u (Starve b) old = kept_tried w is a u _ (starved_kept u a) old

  pub asked_tried : (w : World V) (is : List (Turn V)) (a : ℕ) (es : List (Event V)) (u : World V) → Tried w is a u
      → Tried w is a (asked_all a u es)
  asked_tried w is a [] u old = old
  asked_tried w is a (e ∷ es) u old = asked_tried w is a es (happens u (own a e)).0 (one_tried w is a u e old)

  -- ---- a try in vain
  abbrev WasTried : World V → Stage V → (k n : ℕ) → Type 0
  WasTried w st k n = (tried_at st ≡ Some (k, suc n)) × (is_none (w.boosted.gates k) ≡ false)

  was_tried : (w : World V) (st y : Stage V) (k n : ℕ) → IsTriedAgain w st y → tried_at y ≡ Some (k, n) → WasTried w st k n
  was_tried w (Trying asked (suc i)) y k n h at =
      let e = some_pair asked.collection i k n (ap tried_at (sym h.0) ∙ at) in
      let is = e.0 in
      let left = e.1 in (
        ap (λ j. Some (asked.collection, suc j)) left ∙ ap (λ j. Some (j, suc n)) is,
        subst (λ j. is_none (w.boosted.gates j) ≡ false) is h.1,
      )
  was_tried w (Gating got (j ∷ ks) (suc i)) y k n h at =
      let e = some_pair j i k n (ap tried_at (sym h.0) ∙ at) in
      let is = e.0 in
      let left = e.1 in
      (ap (λ q. Some (j, suc q)) left ∙ ap (λ q. Some (q, suc n)) is, subst (λ q. is_none (w.boosted.gates q) ≡ false) is h.1)
  was_tried w st y k n h at = absurd h

  pub tries_at : (v : World V) (a k n : ℕ) (st : Stage V) → tried_at st ≡ Some (k, n)
      → ◌≡◌ {A = Option (Action (CollectionCall V))} (atomic_action a v st) (Some (TakeGate a k))
  tries_at v a k n (Trying asked tries) at = ap (λ (j : ℕ). Some (TakeGate a j)) (some_pair asked.collection tries k n at).0
  tries_at v a k n (Gating got (j ∷ ks) tries) at = ap (λ (i : ℕ). Some (TakeGate a i)) (some_pair j tries k n at).0
  tries_at v a k n st at = absurd (let b : ⊥ = cc in b)

  -- it moves no gate
  gates_stay : (p : World V) (a j : ℕ) (x : Seat V) (st y : Stage V) → IsTriedAgain p st y
      → (step_at p a x st).0.boosted.gates j ≡ p.boosted.gates j
  gates_stay p a j x (Trying asked (suc i)) y h = let lost = h.1 in rw lost refl
  gates_stay p a j x (Gating got (k ∷ ks) (suc i)) y h = let lost = h.1 in rw lost refl
  gates_stay p a j x st y h = absurd h

  -- a gate that the actor does not have, and that is not free to it, was found with a number
  found_held : (a k n : ℕ) (v : World V) (b : Option (Base V)) → is_actor a (v.boosted.gates k) ≡ false
      → is_none ((found_at a v (Gate k) n b).boosted.gates k) ≡ false → n ≢ 0
  found_held a k n v b free held e =
      let o = v.boosted.gates k in
      let is : (found_at a v (Gate k) n b).boosted.gates k ≡ found_gate a n o = put-same v.boosted.gates k (found_gate a n o) in
      let none : found_gate a n o ≡ None =
      cond-false (is_actor a o) o (if n == 0 then None else Some (suc a)) free ∙ cond-true (n == 0) None (Some (suc a)) (eq-eqb n 0 e) in
      true≢false (sym (ap is_none (is ∙ none)) ∙ held)

  -- ---- a turn
  took_tried : (w : World V) (is : List (Turn V)) (a : ℕ) (i : Turn V) → Tried w is a (lone a w is)
      → Tried w (is ++ i ∷ []) a (took a (lone a w is) i)
  took_tried w is a i before =
      let u = lone a w is in
      let v = asked_all a u i.asks in
      let p = found_at a v (spot a v) i.found i.base in
      let t = (happens p (Step a)).0 in
      let alike : Alike a v p = found_alike a v v (spot a v) i.found i.base (alike_same a v) in
      let old : Tried w is a v = asked_tried w is a i.asks u before in
      elim (stepped_turns p a).seat [
        | inl begun ↦ first_try w (is ++ i ∷ []) a t (stage_of t a) begun
        | inr more ↦ elim more [
          | inl on ↦ half_tries_none w (is ++ i ∷ []) a t (stage_of t a) on.2
          | inr again ↦ λ k n at free. (
              let was = was_tried p (stage_of p a) (stage_of t a) k n again at in
              let due : tried_at (stage_of v a) ≡ Some (k, suc n) = ap (λ (x : Seat V). tried_at x.stage) alike.seat ∙ was.0 in
              let tries : Tries v a k = tries_at v a k (suc n) (stage_of v a) due in
              let stay : t.boosted.gates k ≡ p.boosted.gates k =
              gates_stay p a k (p.seats a) (stage_of p a) (stage_of t a) again in
              let mine : is_actor a (v.boosted.gates k) ≡ false = alike.boosted.gates k ∙ (ap (is_actor a) (sym stay) ∙ free) in
              let held : is_none ((found_at a v (Gate k) i.found i.base).boosted.gates k) ≡ false =
              ap (λ s. is_none ((found_at a v s i.found i.base).boosted.gates k)) (sym (tries_spot a v k tries)) ∙ was.1 in
              let h = old k (suc n) due mine in
              let m = h.1 in
              (h.0 + 1, omega (arith, m), one_more a k h.0 w is i h.2 (tries, found_held a k i.found v i.base mine held))
              )
        ]
      ]

  pub run_tried : (later is : List (Turn V)) (w : World V) (a : ℕ) → Tried w is a (lone a w is)
      → Tried w (is ++ later) a (lone a w (is ++ later))
  run_tried [] is w a old = subst (λ (js : List (Turn V)). Tried w js a (lone a w js)) (sym (append-nil is)) old
  run_tried (i ∷ later) is w a old =
      subst (λ (js : List (Turn V)). Tried w js a (lone a w js)) (append_assoc is (i ∷ []) later)
      (run_tried later (is ++ i ∷ []) w a
      (subst (Tried w (is ++ i ∷ []) a) (sym (lone_snoc a is w i)) (took_tried w is a i old)))
