-- What outcomes do to parts. By the frame laws an outcome changes only the parts that it writes, and what it makes of them
-- depends on them alone; so the outcomes of a transaction leave the parts that none of them writes, and agree where these do.
use Rattle.std.proofs.Common.{◌≡◌, ℕ, Bool, subst, true, false, List, [], ◌∷◌, ◌++◌, ◌⊎◌, inl, inr, refl, sym, ◌∙◌, eqb, eq-eqb, ne_eqb}
use Rattle.std.proofs.lemmas.Bool.{cases_eq, cases_Bool, cond_both, cond-true, cond-false}
use Rattle.tx_machine.proofs.Calls.{touched}
use Rattle.tx_machine.specs.Content.{Content, IsIn, has, Frame}
use Rattle.tx_machine.specs.Boosted.{Committed, changes}
use Rattle.tx_machine.specs.Serial.{AreLegal, IsRead, IsWritten, does_write}

pub is_in : (l : ℕ) (ls : List ℕ) → IsIn l ls ⊎ (IsIn l ls → ⊥)
is_in l [] = inr (λ h. h)
is_in l (k ∷ ks) =
    elim (cases_eq l k) [
      | inl e ↦ inl (inl e)
      | inr ne ↦ elim (is_in l ks) [
        | inl m ↦ inl (inr m)
        | inr away ↦ inr (λ h. elim h [ inl e ↦ ne e | inr m ↦ away m ])
      ]
    ]

pub in_has : (ls : List ℕ) (l : ℕ) → IsIn l ls → has ls l ≡ true
in_has [] l h = absurd h
in_has (k ∷ ks) l h =
    elim h [
      | inl e ↦ cond-true (eqb l k) true (has ks l) (eq-eqb l k e)
      | inr m ↦ cond_both (eqb l k) true (has ks l) (λ (z : Bool). z ≡ true) (λ _. refl) (λ _. in_has ks l m)
    ]

pub out_has : (ls : List ℕ) (l : ℕ) → (IsIn l ls → ⊥) → has ls l ≡ false
out_has [] l h = refl
out_has (k ∷ ks) l h = cond-false (eqb l k) true (has ks l) (ne_eqb l k (λ e. h (inl e))) ∙ out_has ks l (λ m. h (inr m))

-- what holds of each outcome
abbrev pub AllOut : {Out : Type 0} → (Out → Type 0) → List Out → Type 0
AllOut P [] = Unit {0}
AllOut P (o ∷ os) = P o × AllOut P os

pub AllOut_map : {Out : Type 0} → (P Q : Out → Type 0) (os : List Out) → ((o : Out) → P o → Q o) → AllOut P os → AllOut Q os
AllOut_map P Q [] f a = tt
AllOut_map P Q (o ∷ os) f a = (f o a.0, AllOut_map P Q os f a.1)

module _ {X Op Out : Type 0} (c : Content X Op Out) where
  -- no outcome of these writes l
  abbrev pub Untouched : ℕ → List Out → Type 0
  Untouched l os = AllOut (λ o. (IsIn l (c.writes o) → ⊥)) os

  -- the words of a record cover its outcomes
  abbrev pub Fits : Committed Out → Type 0
  Fits r = (l : ℕ) → touched r.word.calls l ≡ false → Untouched l r.outcomes

  abbrev pub AllFit : List (Committed Out) → Type 0
  AllFit [] = Unit {0}
  AllFit (r ∷ rs) = Fits r × AllFit rs

  pub IsWritten-old : (os : List Out) (o : Out) (l : ℕ) → IsWritten c l os → IsWritten c l (os ++ o ∷ [])
  IsWritten-old [] o l h = absurd h
  IsWritten-old (x ∷ os) o l h = elim h [ inl m ↦ inl m | inr r ↦ inr (IsWritten-old os o l r) ]

  pub IsWritten-new : (os : List Out) (o : Out) (l : ℕ) → IsIn l (c.writes o) → IsWritten c l (os ++ o ∷ [])
  IsWritten-new [] o l h = inl h
  IsWritten-new (x ∷ os) o l h = inr (IsWritten-new os o l h)

  pub written_does : (os : List Out) (l : ℕ) → IsWritten c l os → does_write c l os ≡ true
  written_does [] l h = absurd h
  written_does (o ∷ os) l h =
      elim h [
        | inl m ↦ cond-true (has (c.writes o) l) true (does_write c l os) (in_has (c.writes o) l m)
        | inr r ↦ cond_both (has (c.writes o) l) true (does_write c l os) (λ (z : Bool). z ≡ true) (λ _. refl) (λ _. written_does os l r)
      ]

  pub untouched_does : (os : List Out) (l : ℕ) → Untouched l os → does_write c l os ≡ false
  untouched_does [] l h = refl
  untouched_does (o ∷ os) l h = cond-false (has (c.writes o) l) true (does_write c l os) (out_has (c.writes o) l h.0)
      ∙ untouched_does os l h.1

module _ {X Op Out : Type 0} (c : Content X Op Out) (f : Frame c) where
  pub changes_only : (os : List Out) (v : ℕ → X) (l : ℕ) → Untouched c l os → changes c os v l ≡ v l
  changes_only [] v l u = refl
  changes_only (o ∷ os) v l u = changes_only os (c.change o v) l u.1 ∙ f.only o v l u.0

  -- parts that agree where P holds still do, if each outcome that writes such a part writes such parts alone
  pub changes_agree : (P : ℕ → Type 0) (os : List Out) (v w : ℕ → X)
      → AllOut (λ o. ((i j : ℕ) → P i → IsIn i (c.writes o) → IsIn j (c.writes o) → P j)) os → ((l : ℕ) → P l → v l ≡ w l) → (l : ℕ) → P l
      → changes c os v l ≡ changes c os w l
  changes_agree P [] v w a same l p = same l p
  changes_agree P (o ∷ os) v w a same l p =
      changes_agree P os (c.change o v) (c.change o w) a.1
      (λ i q. elim (is_in i (c.writes o)) [
        | inl m ↦ f.local o v w (λ j n. same j (a.0 i j q m n)) i m
        | inr away ↦ f.only o v i away ∙ same i q ∙ sym (f.only o w i away)
      ]) l p

  pub AreLegal-agree : (P : ℕ → Type 0) (os : List Out) (v w : ℕ → X) → AllOut (λ o. ((l : ℕ) → IsIn l (c.reads o) → P l)) os
      → ((l : ℕ) → P l → v l ≡ w l) → AreLegal c v os → AreLegal c w os
  AreLegal-agree P [] v w a same g = tt
  AreLegal-agree P (o ∷ os) v w a same g = (
    (let back : c.outcome v (c.op_of o) ≡ o = g.0 in
        f.legal v w (c.op_of o) (λ l m. same l (a.0 l (subst (λ (z : Out). IsIn l (c.reads z)) back m))) ∙ back),
    AreLegal-agree P os (c.change o v) (c.change o w) a.1
        (λ i q. changes_agree P (o ∷ []) v w ((λ x j _ _ n. a.0 j (f.read o j n)), tt) same i q) g.1,
  )

  pub AreLegal-same : (os : List Out) (v w : ℕ → X) → ((l : ℕ) → v l ≡ w l) → AreLegal c v os → AreLegal c w os
  AreLegal-same os v w same g = AreLegal-agree (λ l. Unit {0}) os v w (any os) (λ l p. same l) g
    where
      any : (os : List Out) → AllOut (λ o. ((l : ℕ) → IsIn l (c.reads o) → Unit {0})) os
      any [] = tt
      any (o ∷ os) = ((λ l m. tt), any os)

  pub AreLegal-add : (os : List Out) (o : Out) (v : ℕ → X) → AreLegal c v os → c.outcome (changes c os v) (c.op_of o) ≡ o
      → AreLegal c v (os ++ o ∷ [])
  AreLegal-add [] o v g e = (e, tt)
  AreLegal-add (x ∷ os) o v g e = (g.0, AreLegal-add os o (c.change x v) g.1 e)

  pub IsRead-add : (os : List Out) (o : Out) (l : ℕ) → IsRead c l (os ++ o ∷ []) → IsRead c l os ⊎ IsIn l (c.reads o)
  IsRead-add [] o l h = elim h [ inl m ↦ inr m | inr b ↦ absurd b ]
  IsRead-add (x ∷ os) o l h =
      elim h [ inl m ↦ inl (inl m) | inr r ↦ elim (IsRead-add os o l r) [ inl q ↦ inl (inr q) | inr m ↦ inr m ] ]

  pub IsRead-old : (os : List Out) (o : Out) (l : ℕ) → IsRead c l os → IsRead c l (os ++ o ∷ [])
  IsRead-old [] o l h = absurd h
  IsRead-old (x ∷ os) o l h = elim h [ inl m ↦ inl m | inr r ↦ inr (IsRead-old os o l r) ]

  pub IsRead-new : (os : List Out) (o : Out) (l : ℕ) → IsIn l (c.reads o) → IsRead c l (os ++ o ∷ [])
  IsRead-new [] o l h = inl h
  IsRead-new (x ∷ os) o l h = inr (IsRead-new os o l h)

  pub Untouched-add : (os : List Out) (o : Out) (l : ℕ) → Untouched c l os → (IsIn l (c.writes o) → ⊥) → Untouched c l (os ++ o ∷ [])
  Untouched-add [] o l u n = (n, tt)
  Untouched-add (x ∷ os) o l u n = (u.0, Untouched-add os o l u.1 n)

  pub read_plain : (os : List Out) (l : ℕ) → IsRead c l os → c.plain l ≡ false
  read_plain [] l h = absurd h
  read_plain (o ∷ os) l h = elim h [ inl m ↦ f.no_word o l m | inr r ↦ read_plain os l r ]

  -- what each outcome reads is read by them all
  pub all_read : (os : List Out) → AllOut (λ o. ((l : ℕ) → IsIn l (c.reads o) → IsRead c l os)) os
  all_read [] = tt
  all_read (o ∷ os) = (
    (λ l m. inl m),
    AllOut_map (λ x. ((l : ℕ) → IsIn l (c.reads x) → IsRead c l os))
        (λ x. ((l : ℕ) → IsIn l (c.reads x) → IsRead c l (o ∷ os))) os (λ x g l m. inr (g l m)) (all_read os),
  )

  -- the same for what they do to a part, of the parts of its collection
  pub only : (r : Committed Out) (v : ℕ → X) (l : ℕ) → Fits c r → touched r.word.calls l ≡ false → changes c r.outcomes v l ≡ v l
  only r v l fit t = changes_only r.outcomes v l (fit l t)

  local_closed : (os : List Out) (t : ℕ → Bool) (l : ℕ) → ((i : ℕ) → t i ≡ false → Untouched c i os)
      → AllOut (λ o. ((i j : ℕ) → (c.home i ≡ c.home l) × (t i ≡ true) → IsIn i (c.writes o) → IsIn j (c.writes o) → (c.home j ≡ c.home l)
      × (t j ≡ true))) os
  local_closed [] t l fit = tt
  local_closed (o ∷ os) t l fit = (
    (λ i j p m n. (
      f.one_home o i j m n ∙ p.0,
      elim (cases_Bool (t j)) [ inl y ↦ y | inr un ↦ absurd ((fit j un).0 n) ],
    )),
    local_closed os t l (λ i un. (fit i un).1),
  )

  pub local : (r : Committed Out) (v w : ℕ → X) (l : ℕ) → Fits c r → touched r.word.calls l ≡ true
      → ((i : ℕ) → c.home i ≡ c.home l → touched r.word.calls i ≡ true → v i ≡ w i) → changes c r.outcomes v l ≡ changes c r.outcomes w l
  local r v w l fit t same =
      changes_agree (λ i. (c.home i ≡ c.home l) × (touched r.word.calls i ≡ true)) r.outcomes v w
      (local_closed r.outcomes (touched r.word.calls) l fit) (λ i p. same i p.0 p.1) l (refl, t)

  -- the same at a location of a collection, of the parts of collections
  pub local_part : (r : Committed Out) (v w : ℕ → X) (l : ℕ) → Fits c r → c.plain l ≡ false → touched r.word.calls l ≡ true
      → ((i : ℕ) → c.home i ≡ c.home l → c.plain i ≡ false → touched r.word.calls i ≡ true → v i ≡ w i) → changes c r.outcomes v l
      ≡ changes c r.outcomes w l
  local_part r v w l fit pl t same =
      changes_agree (λ i. (c.home i ≡ c.home l) × (c.plain i ≡ false) × (touched r.word.calls i ≡ true)) r.outcomes v w
      (closed r.outcomes (touched r.word.calls) l fit) (λ i p. same i p.0 p.1 p.2) l (refl, pl, t)
    where
      closed : (os : List Out) (t : ℕ → Bool) (l : ℕ) → ((i : ℕ) → t i ≡ false → Untouched c i os)
          → AllOut (λ o. ((i j : ℕ) → (c.home i ≡ c.home l) × (c.plain i ≡ false) × (t i ≡ true) → IsIn i (c.writes o)
          → IsIn j (c.writes o) → (c.home j ≡ c.home l) × (c.plain j ≡ false) × (t j ≡ true))) os
      closed [] t l fit = tt
      closed (o ∷ os) t l fit = (
        (λ i j p m n. (
          f.one_home o i j m n ∙ p.0,
          f.no_word o j (f.read o j n),
          elim (cases_Bool (t j)) [ inl y ↦ y | inr un ↦ absurd ((fit j un).0 n) ],
        )),
        closed os t l (λ i un. (fit i un).1),
      )

  -- changes keep to their collections
  pub changes_home : (os : List Out) (v w : ℕ → X) (l : ℕ) → ((i : ℕ) → c.home i ≡ c.home l → v i ≡ w i) → changes c os v l
      ≡ changes c os w l
  changes_home os v w l same = changes_agree (λ i. c.home i ≡ c.home l) os v w (closed os) same l refl
    where
      closed : (os : List Out)
          → AllOut (λ o. ((i j : ℕ) → c.home i ≡ c.home l → IsIn i (c.writes o) → IsIn j (c.writes o) → c.home j ≡ c.home l)) os
      closed [] = tt
      closed (o ∷ os) = ((λ i j p m n. f.one_home o i j m n ∙ p), closed os)
