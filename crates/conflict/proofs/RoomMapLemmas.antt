-- An `IndexMap` with numbers as keys, as a finite map.
use Rattle.std.proofs.Common.{◌≡◌, ℕ, ◌+◌, false, cond, List, [], ◌∷◌, length, Some, None, is_some, nat_eq, refl, sym, ap, ◌∙◌, arith}
use Rattle.std.specs.Cmp.{nat_cmp_total}
use Rattle.std.specs.Ordering.{nat_cmp, eq_by_cmp}
use Rattle.std.specs.Map.{lookup, keys_of}
use Rattle.std.specs.List.{IsDistinct, AllByRecursion}
use Rattle.seq_model.specs.Entries.{inserts}
use Rattle.seq_model.proofs.EntryLemmas.{AreFresh, or_else, or_none, get_inserts}
use Rattle.std.specs.FinMap.{find, empty, get-empty, get, insert, remove, len, from_entries, get-from_entries, get-insert, get-remove}
use Rattle.std.specs.FinMap.{len-insert, len-empty, same_map, nat_cmp-IsAntisymmetric}
use Rattle.std.proofs.lemmas.Bool.Decides.{nat_tests}
use Rattle.indexmap.specs.IndexMap as index

-- the two tests of keys
same_test : (q k : ℕ) → eq_by_cmp nat_cmp q k ≡ nat_eq q k
same_test q k = grind (arith, nat_tests)

turned_test : (q k : ℕ) → nat_eq k q ≡ eq_by_cmp nat_cmp q k
turned_test q k = grind (arith, nat_tests)

module _ {V : Type 0} where
  pub find_is : (q : ℕ) (es : List (ℕ × V)) → find nat_cmp q es ≡ lookup (nat_eq q) es
  find_is q [] = refl
  find_is q (e ∷ es) = λ i. cond (same_test q e.0 i) (Some e.1) (find_is q es i)

  pub get_of : (es : List (ℕ × V)) (q : ℕ) → get (from_entries {R = nat_cmp} es) q ≡ lookup (nat_eq q) es
  get_of es q = get-from_entries nat_cmp_total es q ∙ find_is q es

module _ {V S : Type 0} (m n : index.IndexMap ℕ V S) (k : ℕ) where
  pub insert_of : (v : V) → index.Updates nat_eq m n k (Some v) → from_entries {R = nat_cmp} n.entries ≡ insert (from_entries m.entries) k v
  insert_of v updates = same_map nat_cmp_total nat_cmp-IsAntisymmetric _ _ (λ q.
      get_of n.entries q ∙ updates.0 q ∙ (λ i. cond (turned_test q k i) (Some v) (sym (get_of m.entries q) i))
      ∙ sym (get-insert nat_cmp_total (from_entries m.entries) k v q))

  pub remove_of : index.Updates nat_eq m n k None → from_entries {R = nat_cmp} n.entries ≡ remove (from_entries m.entries) k
  remove_of updates = same_map nat_cmp_total nat_cmp-IsAntisymmetric _ _ (λ q.
      get_of n.entries q ∙ updates.0 q ∙ (λ i. cond (turned_test q k i) None (sym (get_of m.entries q) i))
      ∙ sym (get-remove nat_cmp_total (from_entries m.entries) k q))

-- no entry has a key that differs from each of them
absent : {V : Type 0} (k : ℕ) (es : List (ℕ × V)) → AllByRecursion (λ y. nat_eq k y ≡ false) (keys_of es) → lookup (nat_eq k) es ≡ None
absent k [] h = refl
absent k (e ∷ es) h = ap (λ b. cond b (Some e.1) (lookup (nat_eq k) es)) h.0 ∙ absent k es h.1

pub len_of : {V : Type 0} (es : List (ℕ × V)) → IsDistinct nat_eq (keys_of es) → len (from_entries {R = nat_cmp} es) ≡ length es
unfolding IsDistinct
len_of {V} [] h = len-empty nat_cmp V
len_of (e ∷ es) h =
    let rest = len_of es h.1 in
    len-insert nat_cmp_total (from_entries es) e.0 e.1
    ∙ ap (λ o. cond (is_some o) (len (from_entries {R = nat_cmp} es)) (len (from_entries {R = nat_cmp} es) + 1))
    (get_of es e.0 ∙ absent e.0 es h.0)
    ∙ omega arith

-- ---- entries inserted one after another
module _ {V : Type 0} where
  pub fresh_distinct : (es : List (ℕ × V)) → IsDistinct nat_eq (keys_of es) → AreFresh es
  unfolding IsDistinct
  fresh_distinct [] h = tt
  fresh_distinct (e ∷ es) h = (find_is e.0 es ∙ absent e.0 es h.0, fresh_distinct es h.1)

  -- the entries of a list of distinct keys, inserted into the empty map, give that list's map
  pub inserts_distinct : (es : List (ℕ × V)) → IsDistinct nat_eq (keys_of es) → inserts empty es ≡ from_entries es
  inserts_distinct es h = same_map nat_cmp_total nat_cmp-IsAntisymmetric _ _ (λ q.
      get_inserts es (fresh_distinct es h) empty q ∙ ap (or_else (find nat_cmp q es)) (get-empty {X = V} nat_cmp q)
      ∙ or_none (find nat_cmp q es) ∙ sym (get-from_entries nat_cmp_total es q))
