-- Chunks, one after another.
use Rattle.std.proofs.Common.{◌≡◌, ℕ, zero, suc, ◌+◌, ◌-◌, ◌*◌, ◌/◌, ◌%◌, ◌<◌, ◌≤◌, List}
use Rattle.std.proofs.Common.{[], ◌∷◌, ◌++◌, length, get_or, take, drop, sym, ap, subst, ◌∙◌, arith}
use Rattle.std.proofs.Common.{append_assoc, append-nil}
use Rattle.std.proofs.Math.Nat.{div-add-mod, div-le_of_le-mul, div-lt_iff_lt-mul, mod-lt, mul-le-mul_right}
use Rattle.std.proofs.Math.Seq.{drop-append-add, get_or-append_right}
use Rattle.std.proofs.lemmas.List.{take-append-drop, drop-drop, get_or_append_left, length-append, length-drop}
use Rattle.std.proofs.lemmas.List.Elements.{All-head, All-tail, All-append, All-cons, All-nil}
use Rattle.base_queue.specs.SharedList.{AreOf, flat}

pub flat_pushed : (c : List ℕ) (cs : List (List ℕ)) → flat (cs ++ c ∷ []) ≡ flat cs ++ c
flat_pushed c [] = append-nil c
flat_pushed c (d ∷ cs) = ap (λ t. d ++ t) (flat_pushed c cs) ∙ sym (append_assoc d (flat cs) c)

-- a chunk moves from the front of what is left to the end of the chunks
frozen : (n : ℕ) (cs : List (List ℕ)) (rest : List ℕ) → flat (cs ++ take n rest ∷ []) ++ drop n rest ≡ flat cs ++ rest
frozen n cs rest = ap (λ t. t ++ drop n rest) (flat_pushed (take n rest) cs) ∙ append_assoc (flat cs) (take n rest) (drop n rest)
    ∙ ap (λ t. flat cs ++ t) (take-append-drop n rest)

pub frozen_at : (n at : ℕ) (cs : List (List ℕ)) (items : List ℕ)
    → flat (cs ++ take n (drop at items) ∷ []) ++ drop (at + n) items ≡ flat cs ++ drop at items
frozen_at n at cs items = ap (λ t. flat (cs ++ take n (drop at items) ∷ []) ++ t) (sym (drop-drop n at items)) ∙ frozen n cs (drop at items)

pub of_pushed : (n : ℕ) (c : List ℕ) (cs : List (List ℕ)) → AreOf n cs → length c ≡ n → AreOf n (cs ++ c ∷ [])
of_pushed n c cs all is =
    All-append (λ x. length x ≡ n) cs (c ∷ []) all
    (All-cons (λ x. length x ≡ n) c [] is (All-nil (λ x. length x ≡ n)))

pub length_flat : (n : ℕ) (cs : List (List ℕ)) → AreOf n cs → length (flat cs) ≡ length cs * n
length_flat n [] all = omega arith
length_flat n (c ∷ cs) all =
    let first = All-head (λ x. length x ≡ n) c cs all in
    let rest = length_flat n cs (All-tail (λ x. length x ≡ n) c cs all) in
    length-append c (flat cs) ∙ omega arith

-- the item at place j of chunk i
pub at_flat : (n i j d : ℕ) (e : List ℕ) (cs : List (List ℕ)) → AreOf n cs → i < length cs → j < n
    → get_or (flat cs) (i * n + j) d ≡ get_or (get_or cs i e) j d
at_flat n i j d e [] all lt below = absurd (omega arith)
at_flat n zero j d e (c ∷ cs) all lt below =
    let first = All-head (λ x. length x ≡ n) c cs all in
    let place : 0 * n + j ≡ j = omega arith in
    ap (λ p. get_or (c ++ flat cs) p d) place ∙ get_or_append_left c (flat cs) d j (omega arith)
at_flat n (suc i) j d e (c ∷ cs) all lt below =
    let first = All-head (λ x. length x ≡ n) c cs all in
    let place : (suc i * n + j) - length c ≡ i * n + j = omega arith in
    get_or-append_right c (flat cs) (suc i * n + j) d (omega arith) ∙ ap (λ p. get_or (flat cs) p d) place
    ∙ at_flat n i j d e cs (All-tail (λ x. length x ≡ n) c cs all) (omega arith) below

-- whole chunks go at the front
pub drop_flat : (n k : ℕ) (cs : List (List ℕ)) (back : List ℕ) → AreOf n cs → k ≤ length cs
    → drop (k * n) (flat cs ++ back) ≡ flat (drop k cs) ++ back
drop_flat n zero cs back all le = let none : 0 * n ≡ 0 = omega arith in ap (λ k. drop k (flat cs ++ back)) none
drop_flat n (suc k) [] back all le = absurd (omega arith)
drop_flat n (suc k) (c ∷ cs) back all le =
    let first = All-head (λ x. length x ≡ n) c cs all in
    let count : suc k * n ≡ length c + k * n = omega arith in
    (λ i. drop (count i) (append_assoc c (flat cs) back i)) ∙ drop-append-add c (flat cs ++ back) (k * n)
    ∙ drop_flat n k cs back (All-tail (λ x. length x ≡ n) c cs all) (omega arith)

-- where a place falls
pub in_chunk : (n p : ℕ) (cs : List (List ℕ)) → 0 < n → AreOf n cs → p < length (flat cs) → p / n < length cs
in_chunk n p cs pos all lt = (div-lt_iff_lt-mul pos).1 (subst (λ m. p < m) (length_flat n cs all) lt)

pub chunk_item : (n p d : ℕ) (e : List ℕ) (cs : List (List ℕ)) → 0 < n → AreOf n cs → p < length (flat cs)
    → get_or (get_or cs (p / n) e) (p % n) d ≡ get_or (flat cs) p d
chunk_item n p d e cs pos all lt =
    let place : (p / n) * n + p % n ≡ p = omega (arith, div-add-mod p n) in
    sym (at_flat n (p / n) (p % n) d e cs all (in_chunk n p cs pos all lt) (mod-lt p pos)) ∙ ap (λ q. get_or (flat cs) q d) place

pub few_gone : (n p : ℕ) (cs : List (List ℕ)) → AreOf n cs → p ≤ length (flat cs) → p / n ≤ length cs
few_gone n p cs all le =
    let count = length_flat n cs all in
    div-le_of_le-mul n (omega (arith, le, count))

fits_front : (n k : ℕ) (cs : List (List ℕ)) → AreOf n cs → k ≤ length cs → k * n ≤ length (flat cs)
fits_front n k cs all le = subst (λ m. k * n ≤ m) (sym (length_flat n cs all)) (mul-le-mul_right n le)

-- chunks made anew, without k at the front and with what is moved from the back
pub settled : (n k moved : ℕ) (cs made : List (List ℕ)) (back left : List ℕ) → AreOf n cs → k ≤ length cs → left ≡ drop moved back
    → flat made ++ drop moved back ≡ flat (drop k cs) ++ back → flat made ++ left ≡ drop (k * n) (flat cs ++ back)
settled n k moved cs made back left all le is same = ap (λ t. flat made ++ t) is ∙ same ∙ sym (drop_flat n k cs back all le)

pub settled_count : (n k moved : ℕ) (cs made : List (List ℕ)) (back : List ℕ) → AreOf n cs → k ≤ length cs → moved ≤ length back
    → flat made ++ drop moved back ≡ flat (drop k cs) ++ back → length (flat cs) - k * n + moved ≡ length (flat made)
settled_count n k moved cs made back all le few same =
    let before = ap length (drop_flat n k cs back all le) in
    let after = ap length same in
    let fits : k * n ≤ length (flat cs) = fits_front n k cs all le in
    omega (
      arith,
      before,
      after,
      fits,
      few,
      length-drop (k * n) (flat cs ++ back),
      length-append (flat cs) back,
      length-drop moved back,
      length-append (flat made) (drop moved back),
      length-append (flat (drop k cs)) back,
    )
