-- What the one atomic action of a step makes of the word or the gate that it touches.
--
-- By `one_step` the step leaves what its action leaves, but for its actor's own. On a word that is what the word machine's step makes of
-- it, which grows the clock as `pays` says; on a gate it is what the machine's action makes of the gate and its base, where its guard
-- holds. What is put back is a function of the base and of the actor's own record and outcomes, since changes of one collection's parts
-- depend on its parts alone.
use Rattle.std.proofs.Common.{◌≡◌, ◌⊎◌, ℕ, ◌+◌, ◌≤◌, ◌<◌, true, false, ◌&&◌, List, [], ◌∷◌, Option, Some, None, inl, inr, ⊎_elim, refl, sym}
use Rattle.std.proofs.Common.{ap, ◌∙◌, subst, eqb, eq-eqb, eqb-true, true≢false, arith}
use Rattle.std.specs.Prelude.{if◌then◌else◌, not, ◌==◌}
use Rattle.std.proofs.lemmas.Bool.{cond-true, cond-false, cases_Bool}
use Rattle.tx_sets.specs.Entries.{lookup}
use Rattle.tx_machine.specs.Actor.{Actor, clock_limit}
use Rattle.tx_machine.specs.World as machine
use Rattle.tx_machine.specs.World.{Ask, Step, plan, put, step_end, step}
use Rattle.tx_machine.specs.Cells.{Cell, ClockCell, LockCell, ValueCell, cell, word_of, becomes, learns}
use Rattle.tx_machine.proofs.Cells.{step_cell, step_learns}
use Rattle.tx_machine.proofs.Sets.{put-same}
use Rattle.seq_model.specs.declared.event.Event.TheVariants as event
use Rattle.tx_machine.specs.Content.{Content, Frame, IsIn, has}
use Rattle.tx_machine.specs.Boosted.{Boosted, Action, OnWords, TakeGate, PutGate, Accept, GoHome, is_actor, is_none, is_open}
use Rattle.tx_machine.specs.Boosted.{is_stored, is_committing, shadows_after, gated, homed, copied, changes}
use Rattle.replay_log.specs.Base.{Shown}
use Rattle.replay_log.specs.Contents.{CollectionCall, CallWithOutcome, HaveStripes, content, home_of}
use Rattle.replay_log.specs.Seats.{World, Seat, Stage, Closing, Leaving, Ready, acted, moves, actor_of}
use Rattle.replay_log.specs.Worlds.{happens}
use Rattle.replay_log.proofs.ContentLemmas.{content_frame}
use Rattle.actor_laws.specs.Own.{Alike}
use Rattle.actor_laws.specs.Clock.{stamps_left, Grows}
use Rattle.actor_laws.specs.Steps.{OnlyOwn, atomic_action, ready_at, ended_at, Does}
use Rattle.actor_laws.specs.Machine.{SameBase}
use Rattle.actor_laws.specs.StepTargets.{Word, spot_of, deed_of, word_spot, spot_by, spot_at}
use Rattle.actor_laws.specs.Gates.{Tries, Puts, GoesHome, Gated, Homed}
use Rattle.actor_laws.proofs.Clock.{grows, pays, clock_grows, clock_stays}
use Rattle.actor_laws.proofs.OneStep.{one_step}
use Rattle.actor_laws.proofs.StepTargets.{words_kept, word_becomes, ready_calm}

is_or : (i j : ℕ) → (i ≡ j) ⊎ (eqb i j ≡ false)
is_or i j = ⊎_elim (λ (t : eqb i j ≡ true). inl (eqb-true i j t)) (λ (f : eqb i j ≡ false). inr f) (cases_Bool (eqb i j))

no_tf : {A : Type 0} → true ≡ false → A
no_tf e = absurd (true≢false e)

pub in_list : (ls : List ℕ) (i : ℕ) → has ls i ≡ true → IsIn i ls
in_list [] i t = no_tf (sym t)
in_list (j ∷ ls) i t = ⊎_elim (λ (e : i ≡ j). inl e)
    (λ (f : eqb i j ≡ false). inr (in_list ls i (sym (cond-false (eqb i j) true (has ls i) f) ∙ t))) (is_or i j)

pub out_list : (ls : List ℕ) (i : ℕ) → has ls i ≡ false → IsIn i ls → ⊥
out_list [] i f m = m
out_list (j ∷ ls) i f (inl e) = no_tf (sym (cond-true (eqb i j) true (has ls i) (eq-eqb i j e)) ∙ f)
out_list (j ∷ ls) i f (inr m) = ⊎_elim
    (λ (e : i ≡ j). no_tf (sym (cond-true (eqb i j) true (has ls i) (eq-eqb i j e)) ∙ f))
    (λ (g : eqb i j ≡ false). out_list ls i (sym (cond-false (eqb i j) true (has ls i) g) ∙ f) m) (is_or i j)

-- what a transaction's changes make of the parts of one home depends on those parts
module _ {X Op Out : Type 0} (c : Content X Op Out) (fr : Frame c) (k : ℕ) where
  one_change : (o : Out) (u v : ℕ → X) → ((l : ℕ) → c.plain l ≡ false → c.home l ≡ k → u l ≡ v l) → (l : ℕ) → c.plain l ≡ false → c.home l
      ≡ k → c.change o u l ≡ c.change o v l
  one_change o u v same l w h = ⊎_elim
      (λ (t : has (c.writes o) l ≡ true). let m = in_list (c.writes o) l t in fr.local o u v
      (λ i n. same i (fr.no_word o i (fr.read o i n)) (fr.one_home o l i m n ∙ h)) l m)
      (λ (f : has (c.writes o) l ≡ false). fr.only o u l (out_list (c.writes o) l f)
      ∙ (same l w h ∙ sym (fr.only o v l (out_list (c.writes o) l f))))
      (cases_Bool (has (c.writes o) l))

  pub same_changes : (os : List Out) (u v : ℕ → X) → ((l : ℕ) → c.plain l ≡ false → c.home l ≡ k → u l ≡ v l) → (l : ℕ) → c.plain l
      ≡ false → c.home l ≡ k → changes c os u l ≡ changes c os v l
  same_changes [] u v same l w h = same l w h
  same_changes (o ∷ os) u v same l w h = same_changes os (c.change o u) (c.change o v) (one_change o u v same) l w h

spot_word : (o : Option Cell) (c : Cell) → spot_of o ≡ Word c → o ≡ Some c
spot_word None c e = absurd (let b : ⊥ = cc in b)
spot_word (Some d) c e = cc

module _ {V : Type 0} (a : ℕ) where
  -- an action on a word is a step of the words
  on_word : (r u : World V) (x : Seat V) (p : Stage V) (c : Cell) (d : Option (Action (CollectionCall V))) → spot_by a r d ≡ Word c
      → Does a r x p d u
      → OnlyOwn a (ended_at a x p (acted r (moves a ∷ []))) u × (word_spot r a ≡ Word c)
  on_word r u x p c None e g = absurd (let b : ⊥ = cc in b)
  on_word r u x p c (Some (OnWords (Ask b q))) e (h, g) = absurd h
  on_word r u x p c (Some (OnWords (Step b))) e (h, g) = (subst (λ (z : ℕ). OnlyOwn a (ended_at a x p (acted r (moves z ∷ []))) u) h g, e)
  on_word r u x p c (Some (TakeGate b k)) e g = absurd (let b : ⊥ = cc in b)
  on_word r u x p c (Some (PutGate b k which)) e g = absurd (let b : ⊥ = cc in b)
  on_word r u x p c (Some (Accept b q)) e g = absurd (let b : ⊥ = cc in b)
  on_word r u x p c (Some (GoHome b k)) e g = absurd (let b : ⊥ = cc in b)

  ended_words : (t : World V) (x : Seat V) (p : Stage V) → (ended_at a x p t).boosted ≡ t.boosted
  ended_words t x (Ready ks) = refl
  ended_words t x Closing = refl
  ended_words t x Leaving = refl
  ended_words t x p = refl

  -- the step's deed, in the world where it is done
  abbrev deed_at : World V → Stage V → machine.Deed
  deed_at v p = deed_of (ready_at a v p) a

  -- a step on a word: it becomes what the machine says, and the clock has room
  pub word_turned : (v : World V) (c : Cell) → spot_at a v (v.seats a).stage ≡ Word c → let u = (happens v (event.Step a)).0 in
      (cell u.boosted.words c ≡ becomes (deed_at v (v.seats a).stage) (cell v.boosted.words c)) × Grows a v u
  word_turned v c e =
      let u : World V = (happens v (event.Step a)).0 in
      let p : Stage V = (v.seats a).stage in
      let x : Seat V = v.seats a in
      let r : World V = ready_at a v p in
      let t : World V = acted r (moves a ∷ []) in
      let z = on_word r u x p c (atomic_action a v p) e (one_step v (event.Step a)) in
      let g = z.0 in
      let q = ready_calm a v p in
      let touches = spot_word (word_of (deed_at v p)) c z.1 in
      let y : Actor = actor_of r a in
      let s = r.boosted in
      let changed : cell t.boosted.words c ≡ becomes (deed_at v p) (cell r.boosted.words c) = word_becomes a r c touches in
      let kept : (d : Cell) → cell (ended_at a x p t).boosted.words d ≡ cell t.boosted.words d = λ d. ap
      (λ (b : Boosted (Shown V) (CallWithOutcome V)). cell b.words d) (ended_words t x p) in
      let after : cell u.boosted.words c ≡ becomes (deed_at v p) (cell v.boosted.words c) = g.cells c
      ∙ (kept c ∙ (changed ∙ ap (becomes (deed_at v p)) (q.cells c))) in
      let t0 : Boosted (Shown V) (CallWithOutcome V) = record s { words = step s.words a y y.place; shadows = shadows_after s a y.place } in
      let whole : t.boosted.words ≡ step s.words a y y.place = words_kept t0 (s.shadows a).outcomes (step_end a y y.place) in
      let own : actor_of t a ≡ learns (deed_at v p) y (cell r.boosted.words c) = ap (λ (w : machine.World). w.actors a) whole
      ∙ step_learns s.words a y y.place c touches in
      let owned : stamps_left (actor_of t a).place ≡ stamps_left (learns (deed_at v p) y (cell r.boosted.words c)).place = ap
      (λ (k : Actor). stamps_left k.place) own in
      let ended : stamps_left (actor_of (ended_at a x p t) a).place ≡ stamps_left (actor_of t a).place = ap
      (λ (b : Boosted (Shown V) (CallWithOutcome V)). stamps_left (b.words.actors a).place) (ended_words t x p) in
      let last = g.left in
      let begun = q.left in
      let clock_r : r.boosted.words.clock ≡ v.boosted.words.clock = q.cells ClockCell in
      let clock_u : u.boosted.words.clock ≡ t.boosted.words.clock = g.cells ClockCell ∙ kept ClockCell in
      let clock_t : t.boosted.words.clock ≡ r.boosted.words.clock + grows (deed_at v p) = ⊎_elim
      (λ (h : c ≡ ClockCell).
      subst (λ (d : Cell). cell t.boosted.words d ≡ becomes (deed_at v p) (cell r.boosted.words d)) h changed
      ∙ clock_grows (deed_at v p) r.boosted.words.clock (touches ∙ ap (λ (d : Cell). Some d) h))
      (λ (ne : c ≡ ClockCell → ⊥).
      let b = clock_stays (deed_at v p) (λ h. ne (let i : c ≡ ClockCell = cc in i)) in
      let k : t.boosted.words.clock ≡ r.boosted.words.clock = ap (λ (w : machine.World). w.clock) whole
      ∙ other_clock s.words y c touches ne in omega arith)
      (is_clock c) in (
        after,
        record {
          rises = omega arith;
          pays = ⊎_elim
              (λ (h : grows (deed_at v p) + stamps_left
              (learns (deed_at v p) y (cell r.boosted.words c)).place ≤ stamps_left y.place). inl (omega arith))
              (λ (h : (grows (deed_at v p) ≡ 0) × (word_of (deed_at v p) ≡ Some ClockCell) × (cell r.boosted.words c < clock_limit)).
              let i : c ≡ ClockCell = (let f = h.1 in cc) in
              let low : r.boosted.words.clock < clock_limit = subst (λ (d : Cell). cell r.boosted.words d < clock_limit) i h.2 in
              let f = h.0 in inr (omega arith, omega arith))
              (pays y y.place (cell r.boosted.words c) refl);
        },
      )
    where
      is_clock : (c : Cell) → (c ≡ ClockCell) ⊎ (c ≡ ClockCell → ⊥)
      is_clock ClockCell = inl refl
      is_clock (LockCell l) = inr (λ e. cc)
      is_clock (ValueCell l) = inr (λ e. cc)

      other_clock : (s : machine.World) (y : Actor) (c : Cell) → word_of (plan y y.place) ≡ Some c → (c ≡ ClockCell → ⊥)
          → (step s a y y.place).clock ≡ s.clock
      other_clock s y c touches ne = step_cell s a y y.place ClockCell (λ e. ne (let i : Some c ≡ Some ClockCell = sym touches ∙ e in cc))

  -- an action on a gate is next in the world as it is, and ends no transaction
  abbrev IsOnGate : Action (CollectionCall V) → Type 0
  IsOnGate (OnWords e) = ⊥
  IsOnGate d = Unit {0}

  at_gate : (v u : World V) (x : Seat V) (p : Stage V) (d : Action (CollectionCall V)) → IsOnGate d → atomic_action a v p ≡ Some d
      → Does a (ready_at a v p) x p (atomic_action a v p) u → OnlyOwn a (acted v (d ∷ [])) u
  at_gate v u x p d h e g = plain p d h e (subst (λ (o : Option (Action (CollectionCall V))). Does a (ready_at a v p) x p o u) e g).1
    where
      no_move : (d : Action (CollectionCall V)) → IsOnGate d → Some (moves a) ≡ Some d → ⊥
      no_move (OnWords q) h e = h
      no_move (TakeGate b k) h e = cc
      no_move (PutGate b k which) h e = cc
      no_move (Accept b q) h e = cc
      no_move (GoHome b k) h e = cc

      plain : (p : Stage V) (d : Action (CollectionCall V)) → IsOnGate d → atomic_action a v p ≡ Some d
          → OnlyOwn a (ended_at a x p (acted (ready_at a v p) (d ∷ []))) u → OnlyOwn a (acted v (d ∷ [])) u
      plain (Ready ks) d h e g = absurd (no_move d h e)
      plain Closing d h e g = absurd (no_move d h e)
      plain Leaving d h e g = absurd (no_move d h e)
      plain p d h e g = g

  -- nothing of the words has changed but a's own requests
  quiet_words : (v t u : World V) → t.boosted.words ≡ v.boosted.words → OnlyOwn a t u → Grows a v u
  quiet_words v t u e g =
      let c : u.boosted.words.clock ≡ v.boosted.words.clock = g.cells ClockCell ∙ ap (λ (w : machine.World). w.clock) e in
      let p = g.left in
      let q : stamps_left (actor_of t a).place ≡ stamps_left (actor_of v a).place = ap
      (λ (w : machine.World). stamps_left (w.actors a).place) e in
      record { rises = omega arith; pays = inl (omega arith) }

  -- a gate that was tried is a's, where it was free
  pub try_turned : (v : World V) (k : ℕ) → Tries v a k → is_committing (actor_of v a).place ≡ false
      → Gated a k v (happens v (event.Step a)).0 (if is_none (v.boosted.gates k) then Some a else v.boosted.gates k)
  try_turned v k e rests =
      let u : World V = (happens v (event.Step a)).0 in
      let s = v.boosted in
      let g = at_gate v u (v.seats a) (v.seats a).stage (TakeGate a k) tt e (one_step v (event.Step a)) in
      let won : Boosted (Shown V) (CallWithOutcome V) = gated s (put s.gates k (Some a)) s.shadows in
      let b = is_none (s.gates k) && not (is_committing (s.words.actors a).place) in
      ⊎_elim
      (λ (f : is_none (s.gates k) ≡ true).
      let is : b ≡ true = (λ i. f i && not (rests i)) in
      let h : OnlyOwn a (record v { boosted = won }) u = subst
      (λ (t : Boosted (Shown V) (CallWithOutcome V)). OnlyOwn a (record v { boosted = t }) u) (cond-true b won s is) g in
      record {
        gate = h.gates k
            ∙ (put-same s.gates k (Some a) ∙ sym (cond-true {A = Option ℕ} (is_none (s.gates k)) (Some a) (s.gates k) f));
        parts = h.parts;
        editions = h.editions;
        grows = quiet_words v _ u refl h;
      })
      (λ (f : is_none (s.gates k) ≡ false).
      let is : b ≡ false = ap (λ q. q && not (is_committing (s.words.actors a).place)) f in
      let h : OnlyOwn a v u = subst (λ (t : Boosted (Shown V) (CallWithOutcome V)). OnlyOwn a (record v { boosted = t }) u)
      (cond-false b won s is) g in
      record {
        gate = h.gates k ∙ sym (cond-false {A = Option ℕ} (is_none (s.gates k)) (Some a) (s.gates k) f);
        parts = h.parts;
        editions = h.editions;
        grows = quiet_words v v u refl h;
      })
      (cases_Bool (is_none (s.gates k)))

  -- one that was put back is free
  pub put_turned : (v : World V) (k : ℕ) → Puts v a k → is_actor a (v.boosted.gates k) ≡ true → is_committing (actor_of v a).place ≡ false
      → Gated a k v (happens v (event.Step a)).0 None
  put_turned v k e mine rests =
      let u : World V = (happens v (event.Step a)).0 in
      let s = v.boosted in
      let g = at_gate v u (v.seats a) (v.seats a).stage (PutGate a k e.0) tt e.1 (one_step v (event.Step a)) in
      let c = content {V = V} v.words v.blocks in
      let back : Boosted (Shown V) (CallWithOutcome V) = gated s (put s.gates k None)
      (if is_open (s.words.actors a).place then put s.shadows a
      (copied c s (s.words.actors a).calls (s.shadows a) k e.0) else s.shadows) in
      let b = is_actor a (s.gates k) && not (is_committing (s.words.actors a).place) in
      let is : b ≡ true = (λ i. mine i && not (rests i)) in
      let h : OnlyOwn a (record v { boosted = back }) u = subst
      (λ (t : Boosted (Shown V) (CallWithOutcome V)). OnlyOwn a (record v { boosted = t }) u) (cond-true b back s is) g in
      record { gate = h.gates k ∙ put-same s.gates k None; parts = h.parts; editions = h.editions; grows = quiet_words v _ u refl h }

  pub home_turned : (v : World V) (k : ℕ) → GoesHome v a k → is_actor a (v.boosted.gates k) ≡ true → is_stored (actor_of v a).place ≡ true
      → Homed a k v (happens v (event.Step a)).0
  home_turned v k e mine stored =
      let u : World V = (happens v (event.Step a)).0 in
      let s = v.boosted in
      let g = at_gate v u (v.seats a) (v.seats a).stage (GoHome a k) tt e (one_step v (event.Step a)) in
      let c = content {V = V} v.words v.blocks in
      let back : Boosted (Shown V) (CallWithOutcome V) = homed c s a k in
      let b = is_actor a (s.gates k) && is_stored (s.words.actors a).place in
      let is : b ≡ true = (λ i. mine i && stored i) in
      let h : OnlyOwn a (record v { boosted = back }) u = subst
      (λ (t : Boosted (Shown V) (CallWithOutcome V)). OnlyOwn a (record v { boosted = t }) u) (cond-true b back s is) g in
      record {
        gate = h.gates k ∙ put-same s.gates k None;
        parts = λ l at. h.parts l ∙ cond-true {A = Shown V} (home_of v.words v.blocks l == k) _ (s.parts l) (eq-eqb _ _ at);
        editions = λ l at. h.editions l ∙ cond-true {A = ℕ} (home_of v.words v.blocks l == k) _ (s.editions l) (eq-eqb _ _ at);
        grows = quiet_words v _ u refl h;
      }

  -- so in two worlds that are alike to a and have one base of k, it is put back as one base
  pub home_same : (v w : World V) (k : ℕ) → HaveStripes v.blocks → Alike a v w → SameBase (content v.words v.blocks) k v.boosted w.boosted
      → Homed a k v (happens v (event.Step a)).0 → Homed a k w (happens w (event.Step a)).0
      → SameBase (content v.words v.blocks) k (happens v (event.Step a)).0.boosted (happens w (event.Step a)).0.boosted
  home_same v w k stripes e same hv hw l word at =
      let c = content {V = V} v.words v.blocks in
      let at_w : home_of w.words w.blocks l ≡ k = (λ i. home_of (sym e.words i) (sym e.blocks i) l) ∙ at in
      let os = (v.boosted.shadows a).outcomes in (
        hv.parts l at
            ∙ (same_changes c (content_frame v.words v.blocks stripes) k os v.boosted.parts w.boosted.parts
            (λ j p q. (same j p q).0) l word at
            ∙ ((λ i. changes (content {V = V} (e.words i) (e.blocks i)) (e.boosted.shadow i).outcomes w.boosted.parts l)
            ∙ sym (hw.parts l at_w))),
        hv.editions l at
            ∙ ((λ i. if is_none (lookup (e.boosted.actor i).writes l) then (same l word at).1 i else (same l word at).1 i + 1)
            ∙ sym (hw.editions l at_w)),
      )
