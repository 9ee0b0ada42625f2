-- A list of keys with their values, as a finite map: a look-up finds the first entry with the key; to set the value there, or to append
-- where there is none, is an insert; to leave out all with the key is a remove; inserted from the last on, they are the map of the list.
use Rattle.std.proofs.Common.{◌≡◌, ℕ, suc, ◌+◌, ◌<◌, ◌≤◌, true, false, cond, not, List, [], ◌∷◌, ◌++◌, length, get_or, set, drop}
use Rattle.std.proofs.Common.{Option, Some, None, nat_eq, refl, sym, ap, ◌∙◌, ⊎_elim, arith}
use Rattle.std.specs.Cmp.{nat_cmp_total}
use Rattle.std.specs.Ordering.{nat_cmp, eq_by_cmp}
use Rattle.std.specs.List.{position_or_len, filter}
use Rattle.std.specs.Map.{lookup}
use Rattle.std.specs.FinMap.{FinMap, empty, get, insert, remove, from_entries, from_entries_push, get-insert, get-remove, same_map}
use Rattle.std.specs.FinMap.{nat_cmp-IsAntisymmetric}
use Rattle.std.proofs.lemmas.Bool.{cases_Bool}
use Rattle.std.proofs.lemmas.List.{at_drop_all, at_drop_more}
use Rattle.std.proofs.lemmas.List.Sums.{passes_at_first}
use Rattle.std.proofs.lemmas.Bool.Decides.{nat_tests}
use Rattle.std.proofs.lemmas.Map.Entries.{lookup_head, lookup_tail, lookup-filter-keys}
use Rattle.conflict.proofs.RoomMapLemmas.{find_is, get_of}

-- tests of keys
same_test : (q k : ℕ) → nat_eq q k ≡ eq_by_cmp nat_cmp q k
same_test q k = grind (arith, nat_tests)

turned_test : (k q x : ℕ) → nat_eq q x ≡ true → not (nat_eq x k) ≡ not (nat_eq q k)
turned_test k q x y = grind (arith, nat_tests)

module _ {V : Type 0} where
  -- where the key stands first
  abbrev pub place : ℕ → List (ℕ × V) → ℕ
  place k es = position_or_len (λ e. nat_eq k e.0) es

  place_head : (k : ℕ) (e : ℕ × V) (es : List (ℕ × V)) → nat_eq k e.0 ≡ true → place k (e ∷ es) ≡ 0
  place_head k e es y = ap (λ b. cond (not b) (1 + place k es) 0) y

  place_tail : (k : ℕ) (e : ℕ × V) (es : List (ℕ × V)) → nat_eq k e.0 ≡ false → place k (e ∷ es) ≡ suc (place k es)
  place_tail k e es n = ap (λ b. cond (not b) (1 + place k es) 0) n ∙ omega arith

  lookup_at : (k : ℕ) (es : List (ℕ × V)) (d : ℕ × V) → place k es < length es → lookup (nat_eq k) es ≡ Some (get_or es (place k es) d).1
  lookup_at k [] d h = absurd (omega arith)
  lookup_at k (e ∷ es) d h = ⊎_elim
      (λ y. lookup_head (nat_eq k) e es y ∙ ap (λ i. Some (get_or (e ∷ es) i d).1) (sym (place_head k e es y)))
      (λ n.
      let at = place_tail k e es n in
      lookup_tail (nat_eq k) e es n ∙ lookup_at k es d (omega arith) ∙ ap (λ i. Some (get_or (e ∷ es) i d).1) (sym at))
      (cases_Bool (nat_eq k e.0))

  lookup_missing : (k : ℕ) (es : List (ℕ × V)) → length es ≤ place k es → lookup (nat_eq k) es ≡ None
  lookup_missing k [] h = refl
  lookup_missing k (e ∷ es) h = ⊎_elim
      (λ y. let at = place_head k e es y in absurd (omega arith))
      (λ n. let at = place_tail k e es n in lookup_tail (nat_eq k) e es n ∙ lookup_missing k es (omega arith))
      (cases_Bool (nat_eq k e.0))

  pub get_at : (k : ℕ) (es : List (ℕ × V)) (d : ℕ × V) → place k es < length es
      → get (from_entries {R = nat_cmp} es) k ≡ Some (get_or es (place k es) d).1
  get_at k es d h = get_of es k ∙ lookup_at k es d h

  pub get_missing : (k : ℕ) (es : List (ℕ × V)) → length es ≤ place k es → get (from_entries {R = nat_cmp} es) k ≡ None
  get_missing k es h = get_of es k ∙ lookup_missing k es h

  -- another value at the key's place
  lookup_set : (k q : ℕ) (v : V) (es : List (ℕ × V)) → place k es < length es
      → lookup (nat_eq q) (set es (place k es) (k, v)) ≡ cond (nat_eq q k) (Some v) (lookup (nat_eq q) es)
  lookup_set k q v [] h = absurd (omega arith)
  lookup_set k q v (e ∷ es) h = ⊎_elim
      (λ y.
      let at = ap (λ i. lookup (nat_eq q) (set (e ∷ es) i (k, v))) (place_head k e es y) in
      grind (arith, nat_tests))
      (λ n.
      let at = place_tail k e es n in
      let shown = ap (λ i. lookup (nat_eq q) (set (e ∷ es) i (k, v))) at in
      let rest = lookup_set k q v es (omega arith) in
      grind (arith, nat_tests))
      (cases_Bool (nat_eq k e.0))

  pub insert_at : (k : ℕ) (v : V) (es : List (ℕ × V)) → place k es < length es
      → from_entries {R = nat_cmp} (set es (place k es) (k, v)) ≡ insert (from_entries es) k v
  insert_at k v es h = same_map nat_cmp_total nat_cmp-IsAntisymmetric _ _ (λ q.
      get_of (set es (place k es) (k, v)) q ∙ lookup_set k q v es h ∙ (λ i. cond (same_test q k i) (Some v) (sym (get_of es q) i))
      ∙ sym (get-insert nat_cmp_total (from_entries es) k v q))

  pub insert_last : (k : ℕ) (v : V) (es : List (ℕ × V)) → length es ≤ place k es
      → from_entries {R = nat_cmp} (es ++ (k, v) ∷ []) ≡ insert (from_entries es) k v
  insert_last k v es h = from_entries_push nat_cmp_total nat_cmp-IsAntisymmetric es k v (find_is k es ∙ lookup_missing k es h)

  -- the entries with other keys
  without : (q k : ℕ) (o : Option V) → cond (not (nat_eq q k)) o None ≡ cond (eq_by_cmp nat_cmp q k) None o
  without q k o = grind (arith, nat_tests)

  pub remove_all : (k : ℕ) (es : List (ℕ × V))
      → from_entries {R = nat_cmp} (filter (λ e. not (nat_eq e.0 k)) es) ≡ remove (from_entries es) k
  remove_all k es = same_map nat_cmp_total nat_cmp-IsAntisymmetric _ _ (λ q.
      get_of (filter (λ e. not (nat_eq e.0 k)) es) q
      ∙ lookup-filter-keys (nat_eq q) (λ x. not (nat_eq x k)) (not (nat_eq q k)) (turned_test k q) es
      ∙ without q k (lookup (nat_eq q) es) ∙ ap (cond (eq_by_cmp nat_cmp q k) None) (sym (get_of es q))
      ∙ sym (get-remove nat_cmp_total (from_entries es) k q))

  -- entries inserted from the last to the first
  abbrev pub over : List (ℕ × V) → FinMap nat_cmp V → FinMap nat_cmp V
  over [] m = m
  over (e ∷ es) m = insert (over es m) e.0 e.1

  pub over_empty : (es : List (ℕ × V)) → over es empty ≡ from_entries es
  over_empty [] = refl
  over_empty (e ∷ es) = ap (λ m. insert m e.0 e.1) (over_empty es)

  pub over_last : (es : List (ℕ × V)) (k : ℕ) (v : V) (m : FinMap nat_cmp V) → over (es ++ (k, v) ∷ []) m ≡ over es (insert m k v)
  over_last [] k v m = refl
  over_last (e ∷ es) k v m = ap (λ n. insert n e.0 e.1) (over_last es k v m)

  -- ---- a search from the front
  module _ (k : ℕ) (es : List (ℕ × V)) (i : ℕ) where
    pub place_here : (d : ℕ × V) → i < length es → nat_eq k (get_or es i d).0 ≡ true → place k (drop i es) ≡ 0
    place_here d h y = at_drop_more (place k) es i d h ∙ place_head k (get_or es i d) (drop (i + 1) es) y

    pub place_later : (d : ℕ × V) → i < length es → nat_eq k (get_or es i d).0 ≡ false
        → place k (drop i es) ≡ suc (place k (drop (i + 1) es))
    place_later d h n = at_drop_more (place k) es i d h ∙ place_tail k (get_or es i d) (drop (i + 1) es) n

    pub place_nowhere : length es ≤ i → place k (drop i es) ≡ 0
    place_nowhere h = at_drop_all (place k) es i h

  -- ---- what a call finds at a place, and puts there
  pub found_at : (k : ℕ) (es : List (ℕ × V)) (i : ℕ) (d : ℕ × V) → i ≡ place k es → i < length es
      → Some (get_or es i d).1 ≡ get (from_entries {R = nat_cmp} es) k
  found_at k es i d at h = ap (λ j. Some (get_or es j d).1) at ∙ sym (get_at k es d (omega arith))

  pub put_at : (k : ℕ) (v : V) (es : List (ℕ × V)) (i : ℕ) (e : ℕ × V) → i ≡ place k es → i < length es → e ≡ get_or es i e
      → from_entries {R = nat_cmp} (set es i (e.0, v)) ≡ insert (from_entries es) k v
  put_at k v es i e at h is =
      let passes : nat_eq k (get_or es (place k es) e).0 ≡ true = passes_at_first (λ x. nat_eq k x.0) es e (omega arith) in
      let same : nat_eq k e.0 ≡ true = ap (λ x. nat_eq k x.0) (is ∙ ap (λ j. get_or es j e) at) ∙ passes in
      let key : e.0 ≡ k = grind (arith, nat_tests) in
      ap (λ j. from_entries {R = nat_cmp} (set es j (e.0, v))) at
      ∙ ap (λ x. from_entries {R = nat_cmp} (set es (place k es) (x, v))) key
      ∙ insert_at k v es (omega arith)
