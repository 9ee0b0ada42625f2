-- A run of views is a run of states. Where a view shows a state, an outcome that is legal at the view is the state's own
-- reply and change; so by induction the replies of a run of views are those of a run of states, and the view it leaves shows
-- the state that is left.
use Rattle.std.proofs.Common.{◌≡◌, ℕ, ◌<◌, arith, leb-false, leb, cond, List, [], ◌∷◌, inl, inr, true, false, refl, sym, ap, ◌∙◌}
use Rattle.std.proofs.lemmas.Bool.{cases_Bool, cond-true, cond-false, lt-leb}
use Rattle.tx_machine.specs.Content.{Content, Frame}
use Rattle.tx_machine.specs.Boosted.{Committed, Aborted, changes}
use Rattle.tx_machine.specs.Serial.{AreLegal, AreRun, AllAborted, words, view, views}
use Rattle.tx_machine.proofs.States.{Sequential, Model, after_calls, AreReplies, after_all, AreAll, state_at}
use Rattle.tx_machine.specs.Opacity.{AllFrom, IsInOrder}
use Rattle.tx_machine.proofs.Views.{view_above}
use Rattle.tx_machine.proofs.Parts.{changes_agree}

module _ {X Op Out S R : Type 0} (c : Content X Op Out) (f : Frame c) (q : Sequential Op Out S R) (Fits : S → Type 0)
    (m : Model c q Fits) where
  abbrev Shows : (ℕ → X) → S → Type 0
  Shows v s = (l : ℕ) → v l ≡ m.shown s l

  pub fits_after : (os : List Out) (s : S) → Fits s → Fits (after_calls q s os)
  fits_after [] s fit = fit
  fits_after (o ∷ os) s fit = fits_after os (q.next s (q.op_of o)) (m.keeps s (q.op_of o) fit)

  pub fits_all : (h : List (Committed Out)) (s : S) → Fits s → Fits (after_all q s h)
  fits_all [] s fit = fit
  fits_all (r ∷ rs) s fit = fits_all rs (after_calls q s r.outcomes) (fits_after r.outcomes s fit)

  fits_at : (h : List (Committed Out)) (n : ℕ) (s : S) → Fits s → Fits (state_at q h n s)
  fits_at [] n s fit = fit
  fits_at (r ∷ rs) n s fit =
      elim (leb r.word.number n) as (λ b. Fits (state_at q rs n (cond b (after_calls q s r.outcomes) s))) [
        | true ↦ fits_at rs n (after_calls q s r.outcomes) (fits_after r.outcomes s fit)
        | false ↦ fits_at rs n s fit
      ]

  after_one : (o : Out) (v : ℕ → X) (s : S) → Fits s → Shows v s → c.outcome v (c.op_of o) ≡ o → (q.reply_of o ≡ q.reply s (q.op_of o))
      × Shows (c.change o v) (q.next s (q.op_of o))
  after_one o v s fit h e =
      let op = q.op_of o in
      let is : c.outcome (m.shown s) op ≡ o =
      ap (c.outcome (m.shown s)) (sym (m.asked o)) ∙ f.legal v (m.shown s) (c.op_of o) (λ l _. h l) ∙ e in (
        sym (ap q.reply_of is) ∙ m.replies s op fit,
        λ l. changes_agree c f (λ i. Unit {0}) (o ∷ []) v (m.shown s) ((λ i j _ _ _. tt), tt) (λ i _. h i) l tt
            ∙ ap (λ (z : Out). c.change z (m.shown s) l) (sym is) ∙ m.shows s op l fit,
      )

  pub replies_of : (os : List Out) (v : ℕ → X) (s : S) → Fits s → Shows v s → AreLegal c v os → AreReplies q s os × Shows (changes c os v)
      (after_calls q s os)
  replies_of [] v s fit h g = (tt, h)
  replies_of (o ∷ os) v s fit h g =
      let a = after_one o v s fit h g.0 in
      let b = replies_of os (c.change o v) (q.next s (q.op_of o)) (m.keeps s (q.op_of o) fit) a.1 g.1 in ((a.0, b.0), b.1)

  pub run_of : (h : List (Committed Out)) (v : ℕ → X) (s : S) → Fits s → Shows v s → AreRun c v h → AreAll q s h × Shows (views c h v)
      (after_all q s h)
  run_of [] v s fit h g = (tt, h)
  run_of (r ∷ rs) v s fit h g =
      let a = replies_of r.outcomes v s fit h g.0 in
      let b = run_of rs (changes c r.outcomes v) (after_calls q s r.outcomes) (fits_after r.outcomes s fit) a.1 g.1 in ((a.0, b.0), b.1)

  state_above : (r : Committed Out) (rs : List (Committed Out)) (n : ℕ) (s : S) → AllFrom r.word (words rs) → n < r.word.number
      → state_at q rs n s ≡ s
  state_above r [] n s a lt = refl
  state_above r (x ∷ xs) n s a lt =
      ap (state_at q xs n) (cond-false (leb x.word.number n) (after_calls q s x.outcomes) s
      (lt-leb x.word.number n (omega (arith, lt, a.0.0)))) ∙ state_above r xs n s a.1 lt

  -- the view of the commits up to a number shows the state of them
  pub view_state : (h : List (Committed Out)) (n : ℕ) (v : ℕ → X) (s : S) → Fits s → Shows v s → AreRun c v h → IsInOrder (words h)
      → Shows (view c h n v) (state_at q h n s)
  view_state [] n v s fit h g o l = h l
  view_state (r ∷ rs) n v s fit h g o l =
      elim (cases_Bool (leb r.word.number n)) [
        | inl t ↦
            (let a = replies_of r.outcomes v s fit h g.0 in
            ap (λ (z : ℕ → X). view c rs n z l) (cond-true (leb r.word.number n) (changes c r.outcomes v) v t)
            ∙ view_state rs n (changes c r.outcomes v) (after_calls q s r.outcomes) (fits_after r.outcomes s fit) a.1 g.1 o.1 l
            ∙ ap (λ (z : S). m.shown (state_at q rs n z) l) (sym (cond-true (leb r.word.number n) (after_calls q s r.outcomes) s t)))
        | inr t ↦
            (let lt : n < r.word.number = leb-false r.word.number n t in
            ap (λ (z : ℕ → X). view c rs n z l) (cond-false (leb r.word.number n) (changes c r.outcomes v) v t)
            ∙ view_above c f r rs n v o.0 lt l ∙ h l
            ∙ ap (λ (z : S). m.shown z l)
            (sym (ap (state_at q rs n) (cond-false (leb r.word.number n) (after_calls q s r.outcomes) s t)
            ∙ state_above r rs n s o.0 lt)))
      ]

  -- what is legal at the view of a number has the replies of its state
  pub replies_at : (h : List (Committed Out)) (n : ℕ) (s : S) (os : List Out) → Fits s → AreRun c (m.shown s) h → IsInOrder (words h)
      → AreLegal c (view c h n (m.shown s)) os → AreReplies q (state_at q h n s) os
  replies_at h n s os fit g o k = (replies_of os (view c h n (m.shown s)) (state_at q h n s) (fits_at h n s fit)
      (view_state h n (m.shown s) s fit (λ l. refl) g o) k).0

  pub aborted_at : (h : List (Committed Out)) (s : S) (es : List (Aborted Out)) → Fits s → AreRun c (m.shown s) h → IsInOrder (words h)
      → AllAborted (λ e. AreLegal c (view c h e.word.rv (m.shown s)) e.outcomes) es
      → AllAborted (λ e. AreReplies q (state_at q h e.word.rv s) e.outcomes) es
  aborted_at h s [] fit g o k = tt
  aborted_at h s (e ∷ es) fit g o k = (replies_at h e.word.rv s e.outcomes fit g o k.0, aborted_at h s es fit g o k.1)
