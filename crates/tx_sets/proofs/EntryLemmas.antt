-- Entries in the order of their locations, as finite maps.
use Rattle.std.proofs.Common.{◌≡◌, ℕ, zero, suc, ◌+◌, ◌<◌, ◌≤◌, cond, eqb, ltb, Option, Some, None, [], ◌∷◌, length, get_or, refl, sym, ap}
use Rattle.std.proofs.Common.{◌∙◌, arith, eq-eqb, ne_eqb, eqb-true, ltb-true, ltb-false, lt-ltb, le-ltb, inl, inr, subst}
use Rattle.std.specs.List.{All, Contains}
use Rattle.std.proofs.lemmas.Bool.{eqb-false, cond_both, cond-true, cond-false, cases_eq}
use Rattle.tx_sets.specs.Entries.{Entries, lookup, with_entry, IsRising, AreFiniteMaps}

pub lookup-head : (e : ℕ × ℕ) (es : Entries) → lookup (e ∷ es) e.0 ≡ Some e.1
unfolding lookup
lookup-head e es = cond-true (eqb e.0 e.0) (Some e.1) (lookup es e.0) (eq-eqb e.0 e.0 refl)

pub lookup-tail : (e : ℕ × ℕ) (es : Entries) (l : ℕ) → (l ≡ e.0 → ⊥) → lookup (e ∷ es) l ≡ lookup es l
unfolding lookup
lookup-tail e es l ne = cond-false (eqb l e.0) (Some e.1) (lookup es l) (ne_eqb l e.0 ne)

pub lookup-nil : (l : ℕ) → lookup [] l ≡ None
unfolding lookup
lookup-nil l = refl

-- a location that no entry has
pub lookup_absent : (es : Entries) (l : ℕ) → ((k : ℕ) (d : ℕ × ℕ) → k < length es → (get_or es k d).0 ≡ l → ⊥) → lookup es l ≡ None
lookup_absent [] l other = lookup-nil l
lookup_absent (e ∷ es) l other =
    lookup-tail e es l (λ q. other 0 e (omega arith) (sym q)) ∙ lookup_absent es l (λ k d lt. other (suc k) d (omega (arith, lt)))

pub lookup_above : (es : Entries) (l : ℕ) → All (λ x. l < x.0) es → lookup es l ≡ None
lookup_above es l above = lookup_absent es l (λ k d lt q. omega (arith, above k d lt, q))

pub with_entry-nil : (l v : ℕ) → with_entry [] l v ≡ (l, v) ∷ []
unfolding with_entry
with_entry-nil l v = refl

pub with_entry_below : (e : ℕ × ℕ) (es : Entries) (l v : ℕ) → l < e.0 → with_entry (e ∷ es) l v ≡ (l, v) ∷ (e ∷ es)
unfolding with_entry
with_entry_below e es l v lt =
    cond-true (ltb l e.0) ((l, v) ∷ (e ∷ es)) (cond (eqb l e.0) ((l, v) ∷ es) (e ∷ with_entry es l v)) (lt-ltb l e.0 lt)

pub with_entry_at : (e : ℕ × ℕ) (es : Entries) (l v : ℕ) → l ≡ e.0 → with_entry (e ∷ es) l v ≡ (l, v) ∷ es
unfolding with_entry
with_entry_at e es l v same =
    cond-false (ltb l e.0) ((l, v) ∷ (e ∷ es)) (cond (eqb l e.0) ((l, v) ∷ es) (e ∷ with_entry es l v)) (le-ltb l e.0 (omega (arith, same)))
    ∙ cond-true (eqb l e.0) ((l, v) ∷ es) (e ∷ with_entry es l v) (eq-eqb l e.0 same)

pub with_entry_above : (e : ℕ × ℕ) (es : Entries) (l v : ℕ) → e.0 < l → with_entry (e ∷ es) l v ≡ e ∷ with_entry es l v
unfolding with_entry
with_entry_above e es l v lt =
    cond-false (ltb l e.0) ((l, v) ∷ (e ∷ es)) (cond (eqb l e.0) ((l, v) ∷ es) (e ∷ with_entry es l v)) (le-ltb l e.0 (omega (arith, lt)))
    ∙ cond-false (eqb l e.0) ((l, v) ∷ es) (e ∷ with_entry es l v) (ne_eqb l e.0 (λ q. omega (arith, lt, q)))

-- the three cases of an entry set in a list that isn't empty
pub by_head : (P : Entries → Type 0) (e : ℕ × ℕ) (es : Entries) (l v : ℕ) → (l < e.0 → P ((l, v) ∷ (e ∷ es))) → (l ≡ e.0 → P ((l, v) ∷ es))
    → (e.0 < l → P (e ∷ with_entry es l v)) → P (with_entry (e ∷ es) l v)
unfolding with_entry
by_head P e es l v below at above =
    cond_both (ltb l e.0) ((l, v) ∷ (e ∷ es)) (cond (eqb l e.0) ((l, v) ∷ es) (e ∷ with_entry es l v)) P
    (λ lt. below (ltb-true l e.0 lt))
    (λ ge. cond_both (eqb l e.0) ((l, v) ∷ es) (e ∷ with_entry es l v) P
    (λ same. at (eqb-true l e.0 same))
    (λ ne. above (let le : e.0 ≤ l = ltb-false l e.0 ge in let apart : l ≡ e.0 → ⊥ = eqb-false l e.0 ne in omega (arith, le, apart))))

pub lookup-with_entry_same : (es : Entries) (l v : ℕ) → lookup (with_entry es l v) l ≡ Some v
lookup-with_entry_same [] l v = ap (λ (z : Entries). lookup z l) (with_entry-nil l v) ∙ lookup-head (l, v) []
lookup-with_entry_same (e ∷ es) l v =
    by_head (λ z. lookup z l ≡ Some v) e es l v
    (λ _. lookup-head (l, v) (e ∷ es))
    (λ _. lookup-head (l, v) es)
    (λ lt. lookup-tail e (with_entry es l v) l (λ q. omega (arith, lt, q)) ∙ lookup-with_entry_same es l v)

-- the same head leaves the look-ups equal where the tails' are
lookup-cons : (e : ℕ × ℕ) (es fs : Entries) (k : ℕ) → lookup es k ≡ lookup fs k → lookup (e ∷ es) k ≡ lookup (e ∷ fs) k
unfolding lookup
lookup-cons e es fs k same = ap (λ (z : Option ℕ). cond (eqb k e.0) (Some e.1) z) same

pub lookup-with_entry_other : (es : Entries) (l v k : ℕ) → (k ≡ l → ⊥) → lookup (with_entry es l v) k ≡ lookup es k
lookup-with_entry_other [] l v k ne = ap (λ (z : Entries). lookup z k) (with_entry-nil l v) ∙ lookup-tail (l, v) [] k ne
lookup-with_entry_other (e ∷ es) l v k ne =
    by_head (λ z. lookup z k ≡ lookup (e ∷ es) k) e es l v
    (λ _. lookup-tail (l, v) (e ∷ es) k ne)
    (λ same. lookup-tail (l, v) es k ne ∙ sym (lookup-tail e es k (λ q. ne (q ∙ sym same))))
    (λ _. lookup-cons e (with_entry es l v) es k (lookup-with_entry_other es l v k ne))

-- what holds of each entry, by recursion
each : (ℕ × ℕ → Type 0) → Entries → Type 0
each P [] = Unit {0}
each P (e ∷ es) = P e × each P es

to_each : (P : ℕ × ℕ → Type 0) (es : Entries) → All P es → each P es
unfolding each
to_each P [] a = tt
to_each P (e ∷ es) a = (a 0 e (omega arith), to_each P es (λ k d h. a (suc k) d (omega (arith, h))))

from_each : (P : ℕ × ℕ → Type 0) (es : Entries) → each P es → All P es
unfolding each
from_each P [] a k d h = absurd (omega (arith, h))
from_each P (e ∷ es) a zero d h = a.0
from_each P (e ∷ es) a (suc k) d h = from_each P es a.1 k d (omega (arith, h))

each-with_entry : (P : ℕ × ℕ → Type 0) (es : Entries) (l v : ℕ) → P (l, v) → each P es → each P (with_entry es l v)
unfolding each
each-with_entry P [] l v p a = subst (each P) (sym (with_entry-nil l v)) (p, tt)
each-with_entry P (e ∷ es) l v p a =
    by_head (each P) e es l v (λ _. (p, a)) (λ _. (p, a.1)) (λ _. (a.0, each-with_entry P es l v p a.1))

-- what holds of each entry holds after an entry is set
pub All-with_entry : (P : ℕ × ℕ → Type 0) (es : Entries) (l v : ℕ) → P (l, v) → All P es → All P (with_entry es l v)
All-with_entry P es l v p a = from_each P (with_entry es l v) (each-with_entry P es l v p (to_each P es a))

pub IsRising-with_entry : (es : Entries) (l v : ℕ) → IsRising es → IsRising (with_entry es l v)
unfolding each
IsRising-with_entry [] l v rising = subst IsRising (sym (with_entry-nil l v)) ((λ k d h. absurd (omega (arith, h))), tt)
IsRising-with_entry (e ∷ es) l v rising =
    by_head IsRising e es l v
    (λ lt. (
      (λ k d h. from_each (λ x. l < x.0) (e ∷ es) (lt, to_each (λ x. l < x.0) es (λ j c g. omega (arith, lt, rising.0 j c g))) k d
          h),
      rising,
    ))
    (λ same. ((λ k d h. omega (arith, same, rising.0 k d h)), rising.1))
    (λ lt. (All-with_entry (λ x. e.0 < x.0) es l v lt rising.0, IsRising-with_entry es l v rising.1))

pub length-with_entry_new : (es : Entries) (l v : ℕ) → lookup es l ≡ None → length (with_entry es l v) ≡ length es + 1
length-with_entry_new [] l v new = ap (λ (z : Entries). length z) (with_entry-nil l v) ∙ omega arith
length-with_entry_new (e ∷ es) l v new =
    by_head (λ z. length z ≡ length (e ∷ es) + 1) e es l v
    (λ _. omega arith)
    (λ same. let x : Some e.1 ≡ None = sym (lookup-head e es) ∙ ap (lookup (e ∷ es)) (sym same) ∙ new in absurd (let b : ⊥ = cc in b))
    (λ lt. omega (arith, length-with_entry_new es l v (sym (lookup-tail e es l (λ q. omega (arith, lt, q))) ∙ new)))

pub length-with_entry_there : (es : Entries) (l v : ℕ) → IsRising es → (lookup es l ≡ None → ⊥) → length (with_entry es l v) ≡ length es
length-with_entry_there [] l v rising there = absurd (there (lookup-nil l))
length-with_entry_there (e ∷ es) l v rising there =
    by_head (λ z. length z ≡ length (e ∷ es)) e es l v
    (λ lt. absurd (there (lookup-tail e es l (λ q. omega (arith, lt, q)) ∙ lookup_above es l (λ k d h. omega (arith, lt, rising.0 k d h)))))
    (λ _. omega arith)
    (λ lt. omega (arith, length-with_entry_there es l v rising.1 (λ none. there (lookup-tail e es l (λ q. omega (arith, lt, q)) ∙ none))))

-- what `lookup` finds is an entry
pub Contains-lookup : (es : Entries) (l v : ℕ) → lookup es l ≡ Some v → Contains es (l, v)
Contains-lookup [] l v found = let x : None ≡ Some v = sym (lookup-nil l) ∙ found in absurd (let b : ⊥ = cc in b)
Contains-lookup (e ∷ es) l v found =
    elim (cases_eq l e.0) [
      | inl same ↦
          let x : Some e.1 ≡ Some v = sym (lookup-head e es) ∙ ap (lookup (e ∷ es)) (sym same) ∙ found in
          let value : e.1 ≡ v = cc in
          (0, omega arith, ap (λ (n : ℕ). (n, e.1)) (sym same) ∙ ap (λ (n : ℕ). (l, n)) value)
      | inr ne ↦
          let rest = Contains-lookup es l v (sym (lookup-tail e es l ne) ∙ found) in
          (suc rest.0, omega (arith, rest.1), rest.2)
    ]

-- and where the locations rise, it finds each entry
pub lookup-Contains : (es : Entries) (l v : ℕ) → IsRising es → Contains es (l, v) → lookup es l ≡ Some v
lookup-Contains [] l v rising c = absurd (omega (arith, c.1))
lookup-Contains (e ∷ es) l v rising c = go (lookup-Contains es l v rising.1) c.0 c.1 c.2
  where
    go : (Contains es (l, v) → lookup es l ≡ Some v) → (k : ℕ) → k < length (e ∷ es) → get_or (e ∷ es) k (l, v) ≡ (l, v)
        → lookup (e ∷ es) l ≡ Some v
    go rest zero h q = ap (lookup (e ∷ es)) (sym (ap (λ (x : ℕ × ℕ). x.0) q)) ∙ lookup-head e es ∙ ap (λ (x : ℕ × ℕ). Some x.1) q
    go rest (suc k) h q =
        let above : e.0 < (get_or es k (l, v)).0 = rising.0 k (l, v) (omega (arith, h)) in
        let at : (get_or es k (l, v)).0 ≡ l = ap (λ (x : ℕ × ℕ). x.0) q in
        lookup-tail e es l (λ same. omega (arith, above, at, same)) ∙ rest (k, omega (arith, h), q)

-- a location below all others is found in one list alone
apart : (e : ℕ × ℕ) (es : Entries) (f : ℕ × ℕ) (fs : Entries) → e.0 < f.0 → IsRising (f ∷ fs) → lookup (e ∷ es) e.0 ≡ lookup (f ∷ fs) e.0
    → ⊥
apart e es f fs lt rising same =
    let gone : lookup (f ∷ fs) e.0 ≡ None = lookup-tail f fs e.0 (λ q. omega (arith, lt, q))
    ∙ lookup_above fs e.0 (λ k d h. omega (arith, lt, rising.0 k d h)) in
    let x : Some e.1 ≡ None = sym (lookup-head e es) ∙ same ∙ gone in
    cc

-- the tails' look-ups are equal where those of the whole lists are
tails : (e : ℕ × ℕ) (es : Entries) (f : ℕ × ℕ) (fs : Entries) → e.0 ≡ f.0 → All (λ x. e.0 < x.0) es → All (λ x. f.0 < x.0) fs → (l : ℕ)
    → lookup (e ∷ es) l ≡ lookup (f ∷ fs) l → lookup es l ≡ lookup fs l
tails e es f fs at above_e above_f l same =
    elim (cases_eq l e.0) [
      | inl q ↦ lookup_above es l (λ k d h. omega (arith, q, above_e k d h))
          ∙ sym (lookup_above fs l (λ k d h. omega (arith, q, at, above_f k d h)))
      | inr ne ↦ sym (lookup-tail e es l ne) ∙ same ∙ lookup-tail f fs l (λ q. ne (q ∙ sym at))
    ]

-- lists whose locations rise are equal where their look-ups are
pub same_entries : (es fs : Entries) → IsRising es → IsRising fs → ((l : ℕ) → lookup es l ≡ lookup fs l) → es ≡ fs
same_entries [] [] r s same = refl
same_entries [] (f ∷ fs) r s same = let x : None ≡ Some f.1 = sym (lookup-nil f.0) ∙ same f.0 ∙ lookup-head f fs in absurd
    (let b : ⊥ = cc in b)
same_entries (e ∷ es) [] r s same = let x : Some e.1 ≡ None = sym (lookup-head e es) ∙ same e.0 ∙ lookup-nil e.0 in absurd
    (let b : ⊥ = cc in b)
same_entries (e ∷ es) (f ∷ fs) r s same =
    let not_below : e.0 < f.0 → ⊥ = λ lt. apart e es f fs lt s (same e.0) in
    let not_above : f.0 < e.0 → ⊥ = λ lt. apart f fs e es lt r (sym (same f.0)) in
    let at : e.0 ≡ f.0 = omega (arith, not_below, not_above) in
    let value : Some e.1 ≡ Some f.1 = sym (lookup-head e es) ∙ same e.0 ∙ ap (lookup (f ∷ fs)) at ∙ lookup-head f fs in
    let value_of : e.1 ≡ f.1 = cc in
    let head : e ≡ f = ap (λ (n : ℕ). (n, e.1)) at ∙ ap (λ (n : ℕ). (f.0, n)) value_of in
    let tail : es ≡ fs = same_entries es fs r.1 s.1 (λ l. tails e es f fs at r.0 s.0 l (same l)) in
    ap (λ (x : ℕ × ℕ). x ∷ es) head ∙ ap (λ (z : Entries). f ∷ z) tail

-- Rising lists of entries are finite maps.
pub finite_maps : AreFiniteMaps
finite_maps = record {
  empty = lookup-nil;
  put = lookup-with_entry_same;
  others = lookup-with_entry_other;
  length_there = length-with_entry_there;
  length_new = length-with_entry_new;
  rising = IsRising-with_entry;
  listed = λ es l v rising. (Contains-lookup es l v, lookup-Contains es l v rising);
  same = same_entries;
}
