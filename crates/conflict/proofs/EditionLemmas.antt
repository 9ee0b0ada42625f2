-- Editions, raised at locations that rise strictly.
use Rattle.std.proofs.Common.{◌≡◌, ◌≢◌, ℕ, zero, suc, ◌+◌, ◌<◌, List, [], ◌∷◌, length, get_or, set, take, Contains, refl, sym, ap, subst}
use Rattle.std.proofs.Common.{◌∙◌, arith}
use Rattle.std.specs.List.{AllPairs}
use Rattle.std.specs.List.Sorted.{IsStrictlyIncreasing}
use Rattle.std.proofs.lemmas.List.{get_or-set_same, get_or-set_other, get_or-take, length-set, length-take-le}
use Rattle.std.proofs.lemmas.List.Kept.{AllPairs-from_increasing}
use Rattle.std.proofs.lemmas.Grind.{get_or_default_zero}
use Rattle.conflict.specs.Editions.{raised}

-- other locations keep theirs
pub raised_other : (ws es : List ℕ) (l : ℕ) → ¬ Contains ws l → get_or (raised ws es) l 0 ≡ get_or es l 0
raised_other [] es l un = refl
raised_other (w ∷ ws) es l un =
    let other : l ≢ w = λ is. un (0, omega arith, sym is) in
    raised_other ws (set es w (get_or es w 0 + 1)) l (λ c. un (suc c.0, omega (arith, c.1), c.2))
    ∙ get_or-set_other es w l (get_or es w 0 + 1) 0 other

-- those before a place differ from the one that stands there
pub not_before : (ws : List ℕ) (k : ℕ) → IsStrictlyIncreasing ws → k < length ws → ¬ Contains (take k ws) (get_or ws k 0)
not_before ws k rising lt (j, below, is) =
    let len = length-take-le k ws (omega arith) in
    let early : j < k = omega (arith, below) in
    let d = get_or ws k 0 in
    let less = AllPairs-from_increasing ws rising j k d early lt in
    let at = get_or-take k ws j d early in
    let same = get_or_default_zero ws k d lt in
    omega arith

-- so where a raise stands at a place, the number there is as it was
pub raised_before : (ws es now : List ℕ) (k : ℕ) → IsStrictlyIncreasing ws → k < length ws → now ≡ raised (take k ws) es
    → get_or now (get_or ws k 0) 0 ≡ get_or es (get_or ws k 0) 0
raised_before ws es now k rising lt is =
    ap (λ xs. get_or xs (get_or ws k 0) 0) is ∙ raised_other (take k ws) es (get_or ws k 0) (not_before ws k rising lt)

-- each of these locations has its edition raised by one
pub raised_written : (ws es : List ℕ) (l : ℕ) → IsStrictlyIncreasing ws → Contains ws l → l < length es
    → get_or (raised ws es) l 0 ≡ get_or es l 0 + 1
raised_written ws es l rising there lt = raised_once ws es l (AllPairs-from_increasing ws rising) there lt
  where
    raised_once : (ws es : List ℕ) (l : ℕ) → AllPairs (λ x y. x < y) ws → Contains ws l → l < length es
        → get_or (raised ws es) l 0 ≡ get_or es l 0 + 1
    raised_once [] es l h c lt = absurd (omega (arith, c.1))
    raised_once (w ∷ ws) es l h (zero, below, is) lt =
        let P : ℕ → Type 0 = λ x. get_or (set es w (get_or es w 0 + 1)) x 0 ≡ get_or es x 0 + 1 in
        let gone : ¬ Contains ws l = λ c. let less = h zero (suc c.0) l (omega arith) (omega (arith, c.1)) in let at = c.2 in omega arith in
        raised_other ws (set es w (get_or es w 0 + 1)) l gone ∙ subst P is
        (get_or-set_same es w (get_or es w 0 + 1) 0 (subst (λ x. x < length es) (sym is) lt))
    raised_once (w ∷ ws) es l h (suc k, below, is) lt =
        let less = h zero (suc k) l (omega arith) (omega (arith, below)) in
        let other : l ≢ w = λ e. omega arith in
        raised_once ws (set es w (get_or es w 0 + 1)) l (λ i j d first last. h (suc i) (suc j) d (omega arith) (omega (arith, last)))
        (k, omega (arith, below), is) (subst (λ n. l < n) (sym (length-set es w (get_or es w 0 + 1))) lt)
        ∙ ap (λ n. n + 1) (get_or-set_other es w l (get_or es w 0 + 1) 0 other)
