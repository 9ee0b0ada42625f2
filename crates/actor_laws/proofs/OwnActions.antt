-- Each action of an actor, in two machines that are alike to it.
--
-- An action reads its actor's own record and shadow, whether a gate is its own, the opening, and what it finds. All of these are the same
-- in both, so its guards agree, and the two actions make the same of the actor's state. A step of the words is judged by the one word that
-- it finds (`step_learns`).
use Rattle.std.proofs.Common.{◌≡◌, ℕ, ◌+◌, Bool, true, false, ◌&&◌, eqb-true, ltb, List, [], ◌∷◌, Option, Some, None, ◌⊎◌, inl, inr, ⊎_elim}
use Rattle.std.proofs.Common.{refl, sym, ap, ◌∙◌, subst}
use Rattle.std.proofs.lemmas.Bool.{cases_eq}
use Rattle.std.specs.Prelude.{if◌then◌else◌, not, ◌||◌, ◌==◌}
use Rattle.tx_sets.specs.Entries.{locations}
use Rattle.tx_machine.specs.Actor.{Actor, Call, Place, Begin, clock_limit}
use Rattle.tx_machine.specs.Requests.{Request, AskBegin, AskBeginRead, AskLock, AskStore, AskRelease, AskCancel, AskAbort, AskClose}
use Rattle.tx_machine.specs.Requests.{AskRead, AskWrite, ask}
use Rattle.tx_machine.specs.World.{World, Ask, Step, Deed, Rests, LoadClock, AddToClock, LoadLock, LoadValue, ExchangeLock, StoreValue}
use Rattle.tx_machine.specs.World.{StoreLock, StepEnd, GoesOn, Commits, Aborts, plan, step_end, step, does, noted, now, put, run}
use Rattle.tx_machine.specs.Cells.{Cell, ClockCell, LockCell, ValueCell, cell, word_of, learns}
use Rattle.tx_machine.specs.Opacity.{first_read}
use Rattle.tx_machine.proofs.Cells.{step_learns}
use Rattle.tx_machine.proofs.Sets.{put-same, put-other}
use Rattle.tx_machine.specs.Content.{Content}
use Rattle.tx_machine.specs.Boosted.{Boosted, Shadow, Action, OnWords, TakeGate, PutGate, Accept, GoHome, is_actor, is_none}
use Rattle.tx_machine.specs.Boosted.{is_open, is_stored, is_committing, is_edition, every, on_words, fresh, shadows_after, recorded}
use Rattle.tx_machine.specs.Boosted.{word_step, may_write, writes_asked, longer, is_held, is_given, on_ask, take_gate, is_copied}
use Rattle.tx_machine.specs.Boosted.{copied, put_gate, changes, accepted, go_home, acts}
use Rattle.actor_laws.specs.Machine.{AlikeBelow, SameBase, SameWord, FindsBelow}

-- two worlds by one test
pub both : {A B : Type 0} (R : A → B → Type 0) (b : Bool) (x y : A) (u v : B) → R x u → R y v → R (if b then x else y) (if b then u else v)
both R true x y u v p q = p
both R false x y u v p q = q

-- and by two tests that agree
pub agree : {A B : Type 0} (R : A → B → Type 0) (b d : Bool) (x y : A) (u v : B) → b ≡ d → R x u → R y v → R (if b then x else y)
    (if d then u else v)
agree {A} {B} R b d x y u v e p q = subst (λ (z : Bool). R (if b then x else y) (if z then u else v)) e (both R b x y u v p q)

every_same : (f g : ℕ → Bool) (ls : List ℕ) → ((l : ℕ) → f l ≡ g l) → every f ls ≡ every g ls
every_same f g [] e = refl
every_same f g (l ∷ ls) e = λ i. e l i && every_same f g ls e i

module _ {X Op Out : Type 0} (c : Content X Op Out) (a : ℕ) where
  asked_alike : (s t : Boosted X Out) (q : Request) → AlikeBelow a s t
      → AlikeBelow a (on_words s (now s.words a (ask (s.words.actors a) (s.words.actors a).place q)))
      (on_words t (now t.words a (ask (t.words.actors a) (t.words.actors a).place q)))
  asked_alike s t q e = record {
    actor = put-same s.words.actors a _ ∙ (ap (λ (x : Actor). ask x x.place q) e.actor ∙ sym (put-same t.words.actors a _));
    shadow = e.shadow;
    gates = e.gates;
    opening = e.opening;
    first = e.first;
  }

  ask_alike : (s t : Boosted X Out) (q : Request) → AlikeBelow a s t → AlikeBelow a (on_ask c s a q) (on_ask c t a q)
  ask_alike s t (AskWrite l v) e = both (AlikeBelow a) (c.plain l) _ s _ t (asked_alike s t (AskWrite l v) e) e
  ask_alike s t AskStore e =
      agree (AlikeBelow a) _ _ _ s _ t
      (ap (λ (x : Actor). every (is_held c s a) (locations x.writes)) e.actor ∙ every_same (is_held c s a) (is_held c t a)
      (locations (t.words.actors a).writes) (λ l. ap (λ (b : Bool). c.plain l || b) (e.gates (c.home l))))
      (asked_alike s t AskStore e) e
  ask_alike s t AskRelease e =
      agree (AlikeBelow a) _ _ _ s _ t
      (ap (λ (x : Actor). every (is_given c s a) (locations x.writes)) e.actor ∙ every_same (is_given c s a) (is_given c t a)
      (locations (t.words.actors a).writes) (λ l. ap (λ (b : Bool). c.plain l || not b) (e.gates (c.home l))))
      (asked_alike s t AskRelease e) e
  ask_alike s t AskBegin e = asked_alike s t AskBegin e
  ask_alike s t AskBeginRead e = asked_alike s t AskBeginRead e
  ask_alike s t AskLock e = asked_alike s t AskLock e
  ask_alike s t AskCancel e = asked_alike s t AskCancel e
  ask_alike s t AskAbort e = asked_alike s t AskAbort e
  ask_alike s t AskClose e = asked_alike s t AskClose e
  ask_alike s t (AskRead l) e = asked_alike s t (AskRead l) e

  -- ---- a step of the words
  rests_keep : (s : World) (x : Actor) (p : Place) → plan x p ≡ Rests → (step s a x p).actors a ≡ s.actors a
  rests_keep s x p e = noted_keeps (does s a (plan x p)) (step_end a x p) ∙ ap (λ (d : Deed). (does s a d).actors a) e
    where
      noted_keeps : (u : World) (o : StepEnd) → (noted u o).actors a ≡ u.actors a
      noted_keeps u GoesOn = refl
      noted_keeps u (Commits r) = refl
      noted_keeps u (Aborts r) = refl

  touched : (d : Deed) → (d ≡ Rests) ⊎ ((k : Cell) × (word_of d ≡ Some k))
  touched Rests = inl refl
  touched (LoadClock f) = inr (ClockCell, refl)
  touched (AddToClock f) = inr (ClockCell, refl)
  touched (LoadLock l f) = inr (LockCell l, refl)
  touched (LoadValue l f) = inr (ValueCell l, refl)
  touched (ExchangeLock l k x y) = inr (LockCell l, refl)
  touched (StoreValue l v x) = inr (ValueCell l, refl)
  touched (StoreLock l w x) = inr (LockCell l, refl)

  word_alike : (s t : World) (x : Actor) → s.actors a ≡ x → t.actors a ≡ x
      → ((k : Cell) → word_of (plan x x.place) ≡ Some k → cell s k ≡ cell t k) → (step s a x x.place).actors a
      ≡ (step t a x x.place).actors a
  word_alike s t x e f same = ⊎_elim
      (λ (r : plan x x.place ≡ Rests). rests_keep s x x.place r ∙ (e ∙ sym f) ∙ sym (rests_keep t x x.place r))
      (λ (k : (k : Cell) × (word_of (plan x x.place) ≡ Some k)). step_learns s a x x.place k.0 k.1
      ∙ ((λ i. learns (plan x x.place) ((e ∙ sym f) i) (same k.0 k.1 i)) ∙ sym (step_learns t a x x.place k.0 k.1)))
      (touched (plan x x.place))

  shadow_alike : (s t : Boosted X Out) (p : Place) → AlikeBelow a s t → (p ≡ Begin → s.words.clock ≡ t.words.clock)
      → shadows_after s a p a ≡ shadows_after t a p a
  shadow_alike s t Begin e clock =
      agree (λ (f : ℕ → Shadow X Out) (g : ℕ → Shadow X Out). f a ≡ g a) _ _ _ s.shadows _ t.shadows
      (ap (λ (n : ℕ). ltb n clock_limit) (clock refl))
      (put-same s.shadows a (fresh s)
      ∙ ((λ i. record { copied = λ l. false; parts = e.opening i; editions = e.first i; outcomes = [] })
      ∙ sym (put-same t.shadows a (fresh t)))) e.shadow
  shadow_alike s t p e clock = e.shadow

  recorded_alike : (s t : Boosted X Out) (os ps : List Out) (o q : StepEnd) → AlikeBelow a s t → AlikeBelow a (recorded s os o)
      (recorded t ps q)
  recorded_alike s t os ps o q e = record {
    actor = words_of s os o ∙ (e.actor ∙ sym (words_of t ps q));
    shadow = shadows_of s os o ∙ (e.shadow ∙ sym (shadows_of t ps q));
    gates = λ k. ap (is_actor a) (gates_of s os o k) ∙ (e.gates k ∙ sym (ap (is_actor a) (gates_of t ps q k)));
    opening = opening_of s os o ∙ (e.opening ∙ sym (opening_of t ps q));
    first = first_of s os o ∙ (e.first ∙ sym (first_of t ps q));
  }
    where
      words_of : (u : Boosted X Out) (r : List Out) (z : StepEnd) → (recorded u r z).words.actors a ≡ u.words.actors a
      words_of u r GoesOn = refl
      words_of u r (Commits z) = refl
      words_of u r (Aborts z) = refl

      shadows_of : (u : Boosted X Out) (r : List Out) (z : StepEnd) → (recorded u r z).shadows a ≡ u.shadows a
      shadows_of u r GoesOn = refl
      shadows_of u r (Commits z) = refl
      shadows_of u r (Aborts z) = refl

      gates_of : (u : Boosted X Out) (r : List Out) (z : StepEnd) (k : ℕ) → (recorded u r z).gates k ≡ u.gates k
      gates_of u r GoesOn k = refl
      gates_of u r (Commits z) k = refl
      gates_of u r (Aborts z) k = refl

      opening_of : (u : Boosted X Out) (r : List Out) (z : StepEnd) → (recorded u r z).opening ≡ u.opening
      opening_of u r GoesOn = refl
      opening_of u r (Commits z) = refl
      opening_of u r (Aborts z) = refl

      first_of : (u : Boosted X Out) (r : List Out) (z : StepEnd) → (recorded u r z).first ≡ u.first
      first_of u r GoesOn = refl
      first_of u r (Commits z) = refl
      first_of u r (Aborts z) = refl

  step_alike : (s t : Boosted X Out) → AlikeBelow a s t → SameWord a s.words t.words
      → AlikeBelow a (word_step s a (s.words.actors a) (s.words.actors a).place) (word_step t a (t.words.actors a) (t.words.actors a).place)
  step_alike s t e same =
      let x : Actor = s.words.actors a in
      let y : Actor = t.words.actors a in
      let u : Boosted X Out = record s { words = step s.words a x x.place; shadows = shadows_after s a x.place } in
      let v : Boosted X Out = record t { words = step t.words a y y.place; shadows = shadows_after t a y.place } in
      recorded_alike u v (s.shadows a).outcomes (t.shadows a).outcomes (step_end a x x.place) (step_end a y y.place) record {
        actor = word_alike s.words t.words x refl (sym e.actor) same ∙ ap (λ (z : Actor). (step t.words a z z.place).actors a) e.actor;
        shadow = shadow_alike s t x.place e (λ (p : x.place ≡ Begin). same ClockCell (ap (λ (z : Place). word_of (plan x z)) p))
            ∙ ap (λ (z : Actor). shadows_after t a z.place a) e.actor;
        gates = e.gates;
        opening = e.opening;
        first = e.first;
      }

  -- ---- gates
  gate_put : (f g : ℕ → Option ℕ) (k : ℕ) (o : Option ℕ) → ((j : ℕ) → is_actor a (f j) ≡ is_actor a (g j)) → (j : ℕ)
      → is_actor a (put f k o j) ≡ is_actor a (put g k o j)
  gate_put f g k o e j = ⊎_elim
      (λ (q : j ≡ k). ap (λ (z : ℕ). is_actor a (put f k o z)) q
      ∙ (ap (is_actor a) (put-same f k o)
      ∙ (sym (ap (is_actor a) (put-same g k o)) ∙ sym (ap (λ (z : ℕ). is_actor a (put g k o z)) q))))
      (λ (ne : j ≡ k → ⊥). ap (is_actor a) (put-other f k o j ne) ∙ (e j ∙ sym (ap (is_actor a) (put-other g k o j ne))))
      (cases_eq j k)

  take_alike : (s t : Boosted X Out) (k : ℕ) → AlikeBelow a s t → is_none (s.gates k) ≡ is_none (t.gates k)
      → AlikeBelow a (take_gate c s a k) (take_gate c t a k)
  take_alike s t k e free =
      agree (AlikeBelow a) _ _ _ s _ t (λ i. free i && not (is_committing (e.actor i).place))
      (record {
        actor = e.actor;
        shadow = e.shadow;
        gates = gate_put s.gates t.gates k (Some a) e.gates;
        opening = e.opening;
        first = e.first;
      }) e

  copied_alike : (s t : Boosted X Out) (calls : List Call) (w : Shadow X Out) (k : ℕ) (which : ℕ → Bool) → SameBase c k s t
      → copied c s calls w k which ≡ copied c t calls w k which
  copied_alike s t calls w k which same = λ i. record {
    copied = λ l. if is_copied c calls k which l then true else w.copied l;
    parts = λ l. part l (is_copied c calls k which l) refl i;
    editions = λ l. edition l (is_copied c calls k which l) refl i;
    outcomes = w.outcomes;
  }
    where
      in_base : (which plain home unread : Bool) → (which && (not plain && (home && unread))) ≡ true → (plain ≡ false) × (home ≡ true)
      in_base true false true unread h = (refl, refl)
      in_base false plain home unread h = absurd (let b : ⊥ = cc in b)
      in_base true true home unread h = absurd (let b : ⊥ = cc in b)
      in_base true false false unread h = absurd (let b : ⊥ = cc in b)

      found : (l : ℕ) → is_copied c calls k which l ≡ true → (s.parts l ≡ t.parts l) × (s.editions l ≡ t.editions l)
      found l h = let at = in_base (which l) (c.plain l) (c.home l == k) (is_none (first_read calls l)) h in same l at.0
          (eqb-true (c.home l) k at.1)

      part : (l : ℕ) (b : Bool) → is_copied c calls k which l ≡ b → (if b then s.parts l else w.parts l)
          ≡ (if b then t.parts l else w.parts l)
      part l true h = (found l h).0
      part l false h = refl

      edition : (l : ℕ) (b : Bool) → is_copied c calls k which l ≡ b → (if b then s.editions l else w.editions l)
          ≡ (if b then t.editions l else w.editions l)
      edition l true h = (found l h).1
      edition l false h = refl

  put_alike : (s t : Boosted X Out) (k : ℕ) (which : ℕ → Bool) → AlikeBelow a s t → SameBase c k s t
      → AlikeBelow a (put_gate c s a k which) (put_gate c t a k which)
  put_alike s t k which e same =
      agree (AlikeBelow a) _ _ _ s _ t (λ i. e.gates k i && not (is_committing (e.actor i).place))
      (record {
        actor = e.actor;
        shadow =
            agree (λ (f : ℕ → Shadow X Out) (g : ℕ → Shadow X Out). f a ≡ g a) _ _ _ s.shadows _ t.shadows
            (ap (λ (x : Actor). is_open x.place) e.actor)
            (put-same s.shadows a _
            ∙ ((λ i. copied c s (e.actor i).calls (e.shadow i) k which) ∙ copied_alike s t (t.words.actors a).calls
            (t.shadows a) k which same ∙ sym (put-same t.shadows a _))) e.shadow;
        gates = gate_put s.gates t.gates k None e.gates;
        opening = e.opening;
        first = e.first;
      }) e

  home_alike : (s t : Boosted X Out) (k : ℕ) → AlikeBelow a s t → AlikeBelow a (go_home c s a k) (go_home c t a k)
  home_alike s t k e =
      agree (AlikeBelow a) _ _ _ s _ t (λ i. e.gates k i && is_stored (e.actor i).place)
      (record {
        actor = e.actor;
        shadow = e.shadow;
        gates = gate_put s.gates t.gates k None e.gates;
        opening = e.opening;
        first = e.first;
      }) e

  -- ---- a call
  writes_alike : (editions : ℕ → ℕ) (ls : List ℕ) (s t : World) → s.actors a ≡ t.actors a → (run (writes_asked a editions ls) s).actors a
      ≡ (run (writes_asked a editions ls) t).actors a
  writes_alike editions [] s t e = e
  writes_alike editions (l ∷ ls) s t e =
      writes_alike editions ls _ _
      (put-same s.actors a _ ∙ (ap (λ (x : Actor). ask x x.place (AskWrite l (editions l + 1))) e ∙ sym (put-same t.actors a _)))

  accept_alike : (s t : Boosted X Out) (o : Out) → AlikeBelow a s t → AlikeBelow a (accepted c s a o) (accepted c t a o)
  accept_alike s t o e =
      agree (AlikeBelow a) _ _ _ s _ t
      (λ i.
      is_open (e.actor i).place
      && (may_write (e.actor i).declared (c.writes o)
      && every (λ l. (e.shadow i).copied l && is_edition ((e.shadow i).editions l) (first_read (e.actor i).calls l)) (c.reads o)))
      (record {
        actor = ap (λ (w : Shadow X Out). (run (writes_asked a w.editions (c.writes o)) s.words).actors a) e.shadow
            ∙ writes_alike (t.shadows a).editions (c.writes o) s.words t.words e.actor;
        shadow = put-same s.shadows a _ ∙ (ap (λ (w : Shadow X Out). longer w o) e.shadow ∙ sym (put-same t.shadows a _));
        gates = e.gates;
        opening = e.opening;
        first = e.first;
      }) e

  own_at : (s t : Boosted X Out) (action : Action Op) → AlikeBelow a s t → FindsBelow c a s t action → AlikeBelow a (acts c s action)
      (acts c t action)
  own_at s t (OnWords (Ask b q)) e f = subst (λ (z : ℕ). AlikeBelow a (on_ask c s z q) (on_ask c t z q)) (sym f) (ask_alike s t q e)
  own_at s t (OnWords (Step b)) e f = subst
      (λ (z : ℕ). AlikeBelow a (word_step s z (s.words.actors z) (s.words.actors z).place)
      (word_step t z (t.words.actors z) (t.words.actors z).place)) (sym f.0) (step_alike s t e f.1)
  own_at s t (TakeGate b k) e f = subst (λ (z : ℕ). AlikeBelow a (take_gate c s z k) (take_gate c t z k)) (sym f.0) (take_alike s t k e f.1)
  own_at s t (PutGate b k which) e f = subst (λ (z : ℕ). AlikeBelow a (put_gate c s z k which) (put_gate c t z k which)) (sym f.0)
      (put_alike s t k which e f.1)
  own_at s t (Accept b op) e f =
      subst (λ (z : ℕ). AlikeBelow a (acts c s (Accept z op)) (acts c t (Accept z op))) (sym f)
      (ap_out s t op e)
    where
      ap_out : (s t : Boosted X Out) (op : Op) → AlikeBelow a s t → AlikeBelow a (acts c s (Accept a op)) (acts c t (Accept a op))
      ap_out s t op e =
          subst (λ (w : Shadow X Out). AlikeBelow a (accepted c s a (c.outcome (changes c (s.shadows a).outcomes (s.shadows a).parts) op))
          (accepted c t a (c.outcome (changes c w.outcomes w.parts) op))) e.shadow
          (accept_alike s t (c.outcome (changes c (s.shadows a).outcomes (s.shadows a).parts) op) e)
  own_at s t (GoHome b k) e f = subst (λ (z : ℕ). AlikeBelow a (go_home c s z k) (go_home c t z k)) (sym f) (home_alike s t k e)

pub own_action : {X Op Out : Type 0} → (c : Content X Op Out) (a : ℕ) (s t : Boosted X Out) (action : Action Op) → AlikeBelow a s t
    → FindsBelow c a s t action → AlikeBelow a (acts c s action) (acts c t action)
own_action c a s t action e f = own_at c a s t action e f
