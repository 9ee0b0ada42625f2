-- What is found, and what is least, where two lists with numbers of copies are laid over a multiset, one after the other.
use Rattle.std.proofs.Common.{◌≡◌, ◌≢◌, ℕ, Bool, zero, suc, ◌-◌, ◌<◌, true, false, cond, ◌==◌, List, [], ◌∷◌, length, get_or}
use Rattle.std.proofs.Common.{Option, Some, None, unwrap_or, refl, sym, ap, subst, ◌∙◌, arith}
use Rattle.std.specs.Cmp.{nat_cmp_total}
use Rattle.std.specs.Ordering.{nat_cmp, eq_by_cmp}
use Rattle.std.specs.FinMap.{find, entries, entries_sorted, from_sorted, get, insert}
use Rattle.std.specs.FinMap.{remove, empty, get-empty, get-entries, get-insert, get-remove}
use Rattle.std.specs.FinMap.{same_entries_map, same_map, nat_cmp-IsAntisymmetric}
use Rattle.std.proofs.lemmas.Bool.Decides.{nat_tests}
use Rattle.seq_model.specs.Counts.{Multiset, HasNoZero, copies, with_copies, least}
use Rattle.seq_model.specs.Entries.{IsRising}
use Rattle.seq_model.proofs.EntryLemmas.{below_at, both_true, entries_of, find_below, fresh_rising, get_inserts, or_else}
use Rattle.conflict.specs.Multisets.{get_with, one_fewer, some_copies}
use Rattle.conflict.specs.Places.{same_key, key_itself}
use Rattle.base_pq.specs.Laid.{first_kept, laid, layered, lesser}
use Rattle.base_pq.proofs.LeastLemmas.{IsLeastOf, least_is, least_of_both, least_unique}

-- the entries of a map make it
pub made_of : (m : Multiset) → from_sorted (entries m) ≡ m
made_of m = same_entries_map _ _ (entries_of (entries m) (entries_sorted m))

-- ---- two lists with numbers, also 0
get_layered : (m n : Multiset) (q : ℕ) → get (layered m n) q ≡ or_else (get n q) (get m q)
get_layered m n q =
    get_inserts (entries n) (fresh_rising (entries n) (entries_sorted n)) m q ∙ ap (λ f. or_else f (get m q)) (sym (get-entries n q))

put_layered : (m n : Multiset) (x c : ℕ) → layered m (insert n x c) ≡ insert (layered m n) x c
put_layered m n x c = same_map nat_cmp_total nat_cmp-IsAntisymmetric _ _ (λ q.
    get_layered m (insert n x c) q ∙ ap (λ f. or_else f (get m q)) (get-insert nat_cmp_total n x c q)
    ∙ elim (eq_by_cmp nat_cmp q x) as (λ b. or_else (cond b (Some c) (get n q)) (get m q) ≡ cond b (Some c) (or_else (get n q) (get m q)))
    [ true ↦ refl | false ↦ refl ]
    ∙ sym (get-insert nat_cmp_total (layered m n) x c q ∙ ap (cond (eq_by_cmp nat_cmp q x) (Some c)) (get_layered m n q)))

remove_layered : (m n : Multiset) (x : ℕ) → layered (remove m x) (remove n x) ≡ remove (layered m n) x
remove_layered m n x = same_map nat_cmp_total nat_cmp-IsAntisymmetric _ _ (λ q.
    get_layered (remove m x) (remove n x) q
    ∙ (λ i. or_else (get-remove nat_cmp_total n x q i) (get-remove nat_cmp_total m x q i))
    ∙ elim (eq_by_cmp nat_cmp q x) as (λ b. or_else (cond b None (get n q)) (cond b None (get m q))
    ≡ cond b None (or_else (get n q) (get m q))) [ true ↦ refl | false ↦ refl ]
    ∙ sym (get-remove nat_cmp_total (layered m n) x q ∙ ap (cond (eq_by_cmp nat_cmp q x) None) (get_layered m n q)))

pub none_layered : (m : Multiset) → layered m (empty {R = nat_cmp}) ≡ m
none_layered m = same_map nat_cmp_total nat_cmp-IsAntisymmetric _ _ (λ q.
    get_layered m empty q ∙ ap (λ f. or_else f (get m q)) (get-empty {X = ℕ} nat_cmp q))

-- ---- numbers of copies over a multiset
-- what is laid over it, or else what is there
abbrev pub over : Option ℕ → Option ℕ → Option ℕ
over None o = o
over (Some c) o = some_copies c

get_laid : (es : List (ℕ × ℕ)) → IsRising es → (m : Multiset) (q : ℕ) → get (laid m es) q ≡ over (find nat_cmp q es) (get m q)
get_laid [] s m q = refl
get_laid (e ∷ es) s m q =
    get_laid es (both_true _ _ s).1 (with_copies m e.0 e.1) q ∙ ap (over (find nat_cmp q es)) (get_with m e.0 e.1 q)
    ∙ elim (eq_by_cmp nat_cmp q e.0) as (λ b. eq_by_cmp nat_cmp q e.0 ≡ b
    → over (find nat_cmp q es) (cond b (some_copies e.1) (get m q)) ≡ over (cond b (Some e.1) (find nat_cmp q es)) (get m q)) [
      | true ↦ λ is. ap (λ o. over o (some_copies e.1)) (ap (λ x. find nat_cmp x es) (same_key q e.0 is) ∙ (fresh_rising (e ∷ es) s).0)
      | false ↦ λ is. refl
    ] refl

get_over : (m o : Multiset) (q : ℕ) → get (laid m (entries o)) q ≡ over (get o q) (get m q)
get_over m o q = get_laid (entries o) (entries_sorted o) m q ∙ ap (λ f. over f (get m q)) (sym (get-entries o q))

-- the multiset, with or without x
abbrev maybe_without : Bool → Multiset → ℕ → Multiset
maybe_without gone m x = cond gone (remove m x) m

get_maybe : (gone : Bool) (m : Multiset) (x q : ℕ)
    → get (maybe_without gone m x) q ≡ cond (eq_by_cmp nat_cmp q x) (get (maybe_without gone m x) x) (get m q)
get_maybe gone m x q =
    elim (eq_by_cmp nat_cmp q x) as (λ b. eq_by_cmp nat_cmp q x ≡ b
    → get (maybe_without gone m x) q ≡ cond b (get (maybe_without gone m x) x) (get m q)) [
      | true ↦ λ is. ap (get (maybe_without gone m x)) (same_key q x is)
      | false ↦ λ is. elsewhere gone is
    ] refl
  where
    elsewhere : (gone : Bool) → eq_by_cmp nat_cmp q x ≡ false → get (maybe_without gone m x) q ≡ get m q
    elsewhere true other = get-remove nat_cmp_total m x q ∙ ap (λ b. cond b None (get m q)) other
    elsewhere false other = refl

-- x is given a number over it, whether or not it goes out of it
put_over : (gone : Bool) (m o : Multiset) (x c : ℕ)
    → laid (maybe_without gone m x) (entries (insert o x c)) ≡ with_copies (laid m (entries o)) x c
put_over gone m o x c = same_map nat_cmp_total nat_cmp-IsAntisymmetric _ _ (λ q.
    get_over (maybe_without gone m x) (insert o x c) q
    ∙ (λ i. over (get-insert nat_cmp_total o x c q i) (get_maybe gone m x q i))
    ∙ elim (eq_by_cmp nat_cmp q x) as (λ b. over (cond b (Some c) (get o q)) (cond b (get (maybe_without gone m x) x) (get m q))
    ≡ cond b (some_copies c) (over (get o q) (get m q))) [ true ↦ refl | false ↦ refl ]
    ∙ sym (get_with (laid m (entries o)) x c q ∙ ap (cond (eq_by_cmp nat_cmp q x) (some_copies c)) (get_over m o q)))

-- it goes out of both
remove_over : (m o : Multiset) (x : ℕ) → laid (remove m x) (entries (remove o x)) ≡ with_copies (laid m (entries o)) x 0
remove_over m o x = same_map nat_cmp_total nat_cmp-IsAntisymmetric _ _ (λ q.
    get_over (remove m x) (remove o x) q
    ∙ (λ i. over (get-remove nat_cmp_total o x q i) (get-remove nat_cmp_total m x q i))
    ∙ elim (eq_by_cmp nat_cmp q x) as (λ b. over (cond b None (get o q)) (cond b None (get m q))
    ≡ cond b (some_copies 0) (over (get o q) (get m q))) [ true ↦ refl | false ↦ refl ]
    ∙ sym (get_with (laid m (entries o)) x 0 q ∙ ap (cond (eq_by_cmp nat_cmp q x) (some_copies 0)) (get_over m o q)))

-- a number of x in one's own list, over the two others
pub put_last : (gone : Bool) (m u o : Multiset) (x c : ℕ)
    → laid (maybe_without gone m x) (entries (layered u (insert o x c))) ≡ with_copies (laid m (entries (layered u o))) x c
put_last gone m u o x c = ap (λ n. laid (maybe_without gone m x) (entries n)) (put_layered u o x c) ∙ put_over gone m (layered u o) x c

-- x goes out of all three
pub remove_each : (m u o : Multiset) (x : ℕ)
    → laid (remove m x) (entries (layered (remove u x) (remove o x))) ≡ with_copies (laid m (entries (layered u o))) x 0
remove_each m u o x = ap (λ n. laid (remove m x) (entries n)) (remove_layered u o x) ∙ remove_over m (layered u o) x

pub none_over : (m : Multiset) → laid m (entries (empty {R = nat_cmp})) ≡ m
none_over m = same_map nat_cmp_total nat_cmp-IsAntisymmetric _ _ (λ q.
    get_over m empty q ∙ ap (λ f. over f (get m q)) (get-empty {X = ℕ} nat_cmp q))

pub none_at_all : laid empty (entries (layered (empty {R = nat_cmp}) empty)) ≡ empty
none_at_all = ap (λ n. laid empty (entries n)) (none_layered empty) ∙ none_over empty

pub copies_some : (c : ℕ) → unwrap_or (some_copies c) 0 ≡ c
copies_some c = elim (c == 0) as (λ b. (c == 0) ≡ b → unwrap_or (cond b None (Some c)) 0 ≡ c) [
  | true ↦ λ is. let zero_is : 0 ≡ c = grind (arith, nat_tests) in zero_is
  | false ↦ λ is. refl
] refl

pub copies_over : (m u o : Multiset) (q : ℕ)
    → copies (laid m (entries (layered u o))) q ≡ unwrap_or (over (or_else (get o q) (get u q)) (get m q)) 0
copies_over m u o q =
    ap (λ r. unwrap_or r 0) (get_over m (layered u o) q ∙ ap (λ g. over g (get m q)) (get_layered u o q))

-- ---- one copy of x fewer
pub fewer_same : (m : Multiset) (x q : ℕ) → q ≡ x → copies m q - 1 ≡ copies (one_fewer m x) q
fewer_same m x q is =
    let e : eq_by_cmp nat_cmp q x ≡ true = subst (λ y. eq_by_cmp nat_cmp q y ≡ true) is (key_itself q) in
    ap (λ y. copies m y - 1) is ∙ sym (copies_some (copies m x - 1))
    ∙ sym (ap (λ o. unwrap_or o 0) (get_with m x (copies m x - 1) q
    ∙ ap (λ b. cond b (some_copies (copies m x - 1)) (get m q)) e))

pub fewer_other : (m : Multiset) (x q : ℕ) → (q ≡ x → ⊥) → copies m q ≡ copies (one_fewer m x) q
fewer_other m x q un =
    elim (eq_by_cmp nat_cmp q x) as (λ b. eq_by_cmp nat_cmp q x ≡ b
    → copies m q ≡ unwrap_or (cond b (some_copies (copies m x - 1)) (get m q)) 0) [
      | true ↦ λ is. absurd (un (same_key q x is))
      | false ↦ λ is. refl
    ] refl
    ∙ sym (ap (λ o. unwrap_or o 0) (get_with m x (copies m x - 1) q))

none_fewer : (m : Multiset) (x q : ℕ) → get m q ≡ None → get (one_fewer m x) q ≡ None
none_fewer m x q none =
    get_with m x (copies m x - 1) q
    ∙ elim (eq_by_cmp nat_cmp q x) as (λ b. eq_by_cmp nat_cmp q x ≡ b → cond b (some_copies (copies m x - 1)) (get m q) ≡ None) [
      | true ↦ λ is. ap (λ o. some_copies (unwrap_or o 0 - 1)) (ap (get m) (sym (same_key q x is)) ∙ none)
      | false ↦ λ is. none
    ] refl

-- ---- the first that is kept
-- what there is of q, where it is found in a list
abbrev among : Option ℕ → Option ℕ → Option ℕ
among None o = None
among (Some c) o = o

some_kept : (o : Option ℕ) → (unwrap_or o 0 == 0) ≡ false → o ≢ None
some_kept None is e = cc
some_kept (Some v) is e = cc

none_kept : (o : Option ℕ) → o ≢ Some 0 → (unwrap_or o 0 == 0) ≡ true → o ≡ None
none_kept None nz is = refl
none_kept (Some v) nz is = let z : v ≡ 0 = grind (arith, nat_tests) in absurd (nz (ap Some z))

first_kept_is : (m : Multiset) → HasNoZero m → (es : List (ℕ × ℕ)) → IsRising es
    → IsLeastOf (λ q. among (find nat_cmp q es) (get m q)) (first_kept (λ q. copies m q) es)
first_kept_is m nz [] s = λ z. refl
first_kept_is m nz (e ∷ es) s =
    elim (copies m e.0 == 0) as (λ b. (copies m e.0 == 0) ≡ b
    → IsLeastOf (λ q. among (find nat_cmp q (e ∷ es)) (get m q)) (cond b (first_kept (λ q. copies m q) es) (Some e.0))) [
      | true ↦ λ t.
          subst (λ (u : ℕ → Option ℕ). IsLeastOf u (first_kept (λ q. copies m q) es)) (λ i q. rest t q i)
          (first_kept_is m nz es (both_true _ _ s).1)
      | false ↦ λ t. (
        λ none. some_kept (get m e.0) t (sym (ap (λ o. among o (get m e.0)) here) ∙ none),
        λ z lt. ap (λ o. among o (get m z)) (find_below z (e ∷ es) (above z lt)),
      )
    ] refl
  where
    here : find nat_cmp e.0 (e ∷ es) ≡ Some e.1
    here = ap (λ b. cond b (Some e.1) (find nat_cmp e.0 es)) (key_itself e.0)

    above : (z : ℕ) → z < e.0 → (j : ℕ) (d : ℕ × ℕ) → j < length (e ∷ es) → z < (get_or (e ∷ es) j d).0
    above z lt zero d below = lt
    above z lt (suc j) d below = let more = below_at e.0 es (both_true _ _ s).0 j d (omega arith) in omega arith

    rest : (copies m e.0 == 0) ≡ true → (q : ℕ) → among (find nat_cmp q es) (get m q) ≡ among (find nat_cmp q (e ∷ es)) (get m q)
    rest t q =
        elim (eq_by_cmp nat_cmp q e.0) as (λ b. eq_by_cmp nat_cmp q e.0 ≡ b
        → among (find nat_cmp q es) (get m q) ≡ among (cond b (Some e.1) (find nat_cmp q es)) (get m q)) [
          | true ↦ λ is.
              let key = same_key q e.0 is in
              ap (λ o. among o (get m q)) (ap (λ x. find nat_cmp x es) key ∙ (fresh_rising (e ∷ es) s).0)
              ∙ sym (ap (get m) key ∙ none_kept (get m e.0) (nz e.0) t)
          | false ↦ λ is. refl
        ] refl

both_among : (a b g : Option ℕ) → or_else (among a g) (among b g) ≡ among (or_else a b) g
both_among None b g = refl
both_among (Some u) None None = refl
both_among (Some u) (Some v) None = refl
both_among (Some u) b (Some w) = refl

all_among : (a b g : Option ℕ) → (a ≡ None → b ≡ None → g ≡ None) → among (or_else a b) g ≡ g
all_among None None g h = sym (h refl refl)
all_among None (Some v) g h = refl
all_among (Some u) b g h = refl

first_kept_in : (k m : Multiset) → HasNoZero k → IsLeastOf (λ q. among (get m q) (get k q)) (first_kept (λ q. copies k q) (entries m))
first_kept_in k m nz =
    subst (λ (u : ℕ → Option ℕ). IsLeastOf u (first_kept (λ q. copies k q) (entries m)))
    (λ i q. among (sym (get-entries m q) i) (get k q)) (first_kept_is k nz (entries m) (entries_sorted m))

-- the least of what two have among h
together : (f g h : ℕ → Option ℕ) (a b : Option ℕ) → IsLeastOf (λ q. among (f q) (h q)) a → IsLeastOf (λ q. among (g q) (h q)) b
    → IsLeastOf (λ q. among (or_else (f q) (g q)) (h q)) (lesser a b)
together f g h a b first second =
    subst (λ (u : ℕ → Option ℕ). IsLeastOf u (lesser a b)) (λ i q. both_among (f q) (g q) (h q) i)
    (least_of_both (λ q. among (f q) (h q)) (λ q. among (g q) (h q)) a b first second)

pub least_of_laid : (m u o : Multiset) (x : ℕ) → HasNoZero (one_fewer (laid m (entries (layered u o))) x)
    → lesser (lesser (first_kept (λ q. copies (one_fewer (laid m (entries (layered u o))) x) q) (entries o))
    (first_kept (λ q. copies (one_fewer (laid m (entries (layered u o))) x) q) (entries u)))
    (first_kept (λ q. copies (one_fewer (laid m (entries (layered u o))) x) q) (entries m))
    ≡ least (one_fewer (laid m (entries (layered u o))) x)
least_of_laid m u o x nz =
    let k = one_fewer (laid m (entries (layered u o))) x in
    let changed = together (get o) (get u) (get k) _ _ (first_kept_in k o nz) (first_kept_in k u nz) in
    let all = together (λ q. or_else (get o q) (get u q)) (get m) (get k) _ _ changed (first_kept_in k m nz) in
    least_unique (get k) _ _
    (subst (λ (f : ℕ → Option ℕ). IsLeastOf f (lesser (lesser (first_kept (λ q. copies k q) (entries o))
    (first_kept (λ q. copies k q) (entries u))) (first_kept (λ q. copies k q) (entries m))))
    (λ i q. all_among (or_else (get o q) (get u q)) (get m q) (get k q) (λ first second.
    none_fewer (laid m (entries (layered u o))) x q
    (get_over m (layered u o) q ∙ (λ j. over ((get_layered u o q ∙ first) j) (second j)))) i)
    all)
    (least_is k)
