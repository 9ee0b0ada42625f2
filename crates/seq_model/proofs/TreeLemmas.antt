-- A `BTreeMap` with numbers as keys, as a finite map.
use Rattle.std.proofs.Common.{◌≡◌, ◌<◌, ℕ, true, false, cond, not, List, [], ◌∷◌, length, None, Some, refl, sym, ap, subst, ◌∙◌, arith}
use Rattle.std.specs.BTreeMap.{BTreeMap, get_by, insert_entry, is_at}
use Rattle.std.proofs.lemmas.Bool.{false≢true}
use Rattle.std.specs.Map.{lookup, remove_entry}
use Rattle.std.specs.Ordering.{nat_cmp, is_eq, match_ordering}
use Rattle.std.specs.FinMap.{FinMap, put, find, get as map_get, from_sorted, insert as map_insert, remove as map_remove, len as map_len}
use Rattle.std.specs.FinMap.{len-entries, get-from_sorted}
use Rattle.std.specs.FinMap.Entries.{by_order, is_sorted-put}
use Rattle.std.specs.Cmp.{nat_cmp_total}
use Rattle.std.specs.List.{slice_get}
use Rattle.std.specs.Option.{option_map}
use Rattle.seq_model.specs.Counts.{first_key}
use Rattle.seq_model.specs.Entries.{IsRising}
use Rattle.seq_model.proofs.EntryLemmas.{by_cases, both_true, below_at, items_are, insert_of, remove_of, without, without_below}
use Rattle.seq_model.proofs.EntryLemmas.{rising_without}

module _ {V : Type 0} where
  put_is : (k : ℕ) (v : V) (es : List (ℕ × V)) → insert_entry nat_cmp es k v ≡ put nat_cmp k v es
  put_is k v [] = refl
  put_is k v (e ∷ es) =
      by_cases k e.0 (λ r. match_ordering r ((k, v) ∷ e ∷ es) ((e.0, v) ∷ es) (e ∷ insert_entry nat_cmp es k v)
      ≡ by_order r ((k, v) ∷ e ∷ es) ((e.0, v) ∷ es) (e ∷ put nat_cmp k v es))
      (λ _. refl) (λ _. refl) (λ _. ap (λ t. e ∷ t) (put_is k v es))

  find_is : (k : ℕ) (es : List (ℕ × V)) → lookup (is_at (nat_cmp k)) es ≡ find nat_cmp k es
  find_is k [] = refl
  find_is k (e ∷ es) = ap (cond (is_eq (nat_cmp k e.0)) (Some e.1)) (find_is k es)

  without_is : (k : ℕ) (es : List (ℕ × V)) → IsRising es → remove_entry (is_at (nat_cmp k)) es ≡ without k es
  without_is k [] s = refl
  without_is k (e ∷ es) s =
      by_cases k e.0 (λ r. cond (is_eq r) es (e ∷ remove_entry (is_at (nat_cmp k)) es)
      ≡ cond (not (is_eq r)) (e ∷ without k es) (without k es))
      (λ _. ap (λ t. e ∷ t) (without_is k es (both_true _ _ s).1))
      (λ same. sym (without_below k es (λ j d l. omega (arith, below_at e.0 es (both_true _ _ s).0 j d l))))
      (λ _. ap (λ t. e ∷ t) (without_is k es (both_true _ _ s).1))

-- the tree's entries, and the map that they show
module _ {V : Type 0} (t : BTreeMap ℕ V) (s : IsRising t.entries) (m : FinMap nat_cmp V) (view : from_sorted t.entries ≡ m) where
  pub get_is : (k : ℕ) → get_by (nat_cmp k) t ≡ map_get m k
  get_is k = find_is k t.entries ∙ sym (get-from_sorted nat_cmp t.entries k s) ∙ ap (λ x. map_get x k) view

  pub len_is : length t.entries ≡ map_len m
  len_is = ap length (sym (items_are t.entries s m view 0)) ∙ sym (len-entries m)

  pub rising_put : (k : ℕ) (v : V) → IsRising (insert_entry nat_cmp t.entries k v)
  rising_put k v = subst IsRising (sym (put_is k v t.entries)) (is_sorted-put nat_cmp nat_cmp_total k v t.entries s)

  pub insert_is : (k : ℕ) (v : V) → from_sorted (insert_entry nat_cmp t.entries k v) ≡ map_insert m k v
  insert_is k v = ap from_sorted (put_is k v t.entries) ∙ insert_of k v t.entries s ∙ ap (λ x. map_insert x k v) view

  pub rising_gone : (k : ℕ) → IsRising (remove_entry (is_at (nat_cmp k)) t.entries)
  rising_gone k = subst IsRising (sym (without_is k t.entries s)) (rising_without k t.entries s)

  pub remove_is : (k : ℕ) → from_sorted (remove_entry (is_at (nat_cmp k)) t.entries) ≡ map_remove m k
  remove_is k = ap from_sorted (without_is k t.entries s) ∙ remove_of k t.entries s ∙ ap (λ x. map_remove x k) view

-- ---- two lists read side by side: what is left of them is equal just where P holds
abbrev pub AreAlike : {X : Type 0} → Type 0 → List X → List X → Type 0
AreAlike P xs ys = (length xs ≡ length ys) × (xs ≡ ys → P) × (P → xs ≡ ys)

abbrev rest_of : {X : Type 0} → List X → List X
rest_of [] = []
rest_of (x ∷ xs) = xs

abbrev head_or : {X : Type 0} → X → List X → X
head_or d [] = d
head_or d (x ∷ xs) = x

pub alike_on : {X : Type 0} (P : Type 0) (xs ys : List X) (x y : X) (t u : List X) → xs ≡ x ∷ t → ys ≡ y ∷ u → x ≡ y → AreAlike P xs ys
    → AreAlike P t u
alike_on P xs ys x y t u mine theirs same h = (
  omega (arith, sym (ap length mine) ∙ h.0 ∙ ap length theirs),
  λ e. h.1 (mine ∙ (λ i. same i ∷ e i) ∙ sym theirs),
  λ p. ap rest_of (sym mine ∙ h.2 p ∙ theirs),
)

pub heads : {X : Type 0} (x y : X) (t u : List X) → x ∷ t ≡ y ∷ u → x ≡ y
heads x y t u e = ap (head_or x) e

pub none_left : {X : Type 0} (x : X) (t : List X) → x ∷ t ≡ [] → ⊥
none_left x t e = cc

pub both_end : {X : Type 0} (xs ys : List X) → xs ≡ [] → length xs ≡ length ys → ys ≡ []
both_end xs [] e h = refl
both_end xs (y ∷ ys) e h = absurd (omega (arith, ap length e, h))

pub first_is : {V : Type 0} (es : List (ℕ × V)) (e : ℕ × V) → slice_get es 0 ≡ Some e → Some e.0 ≡ first_key es
first_is [] e h = cc
first_is (f ∷ es) e h = ap (option_map (λ p. p.0)) (sym h)

pub first_none : {V : Type 0} (es : List (ℕ × V)) → (0 < length es → false ≡ true) → None ≡ first_key es
first_none [] h = refl
first_none (e ∷ es) h = absurd (false≢true (h (omega arith)))
