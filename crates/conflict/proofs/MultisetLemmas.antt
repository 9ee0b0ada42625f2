-- Multisets without an element of 0 copies, as lists of entries.
use Rattle.std.proofs.Common.{◌≡◌, ◌≢◌, ℕ, true, false, cond, ◌==◌, List, [], ◌∷◌, Some, None, refl, ap, ◌∙◌, arith}
use Rattle.std.specs.Prelude.{fold}
use Rattle.std.specs.Ordering.{nat_cmp, eq_by_cmp}
use Rattle.std.specs.FinMap.{empty, entries, entries_sorted, find, get-entries, insert, remove}
use Rattle.std.proofs.lemmas.Bool.Decides.{nat_tests}
use Rattle.seq_model.specs.Counts.{Multiset, HasNoZero, with_copies}
use Rattle.seq_model.specs.Entries.{IsRising}
use Rattle.seq_model.proofs.CountsLemmas.{no_zero_remove, no_zero_insert}
use Rattle.seq_model.proofs.EntryLemmas.{inserts_all, find_below, below_at, both_true}
use Rattle.conflict.specs.Places.{same_key, key_itself}
use Rattle.seq_model.specs.Entries.{inserts}

pub no_zero_with : (m : Multiset) (x c : ℕ) → HasNoZero m → HasNoZero (with_copies m x c)
no_zero_with m x c none =
    elim (c == 0) as (λ b. (c == 0) ≡ b → HasNoZero (cond b (remove m x) (insert m x c))) [
      | true ↦ λ _. no_zero_remove m x none
      | false ↦ λ is. no_zero_insert m x c none (grind (arith, nat_tests))
    ] refl

-- entries given one after another
abbrev pub gives : Multiset → List (ℕ × ℕ) → Multiset
gives m es = fold (λ n e. with_copies n e.0 e.1) m es

abbrev HasNone : List (ℕ × ℕ) → Type 0
HasNone es = (x : ℕ) → find nat_cmp x es ≢ Some 0

some_first : (e : ℕ × ℕ) (es : List (ℕ × ℕ)) → HasNone (e ∷ es) → e.1 ≢ 0
some_first e es none is = none e.0 (ap (λ b. cond b (Some e.1) (find nat_cmp e.0 es)) (key_itself e.0) ∙ ap (λ n. Some n) is)

none_later : (e : ℕ × ℕ) (es : List (ℕ × ℕ)) → IsRising (e ∷ es) → HasNone (e ∷ es) → HasNone es
none_later e es rising none x is =
    elim (eq_by_cmp nat_cmp x e.0) as (λ b. eq_by_cmp nat_cmp x e.0 ≡ b → ⊥) [
      | true ↦ λ same.
          let absent : find nat_cmp x es ≡ None = ap (λ k. find nat_cmp k es) (same_key x e.0 same)
          ∙ find_below e.0 es (below_at e.0 es (both_true _ _ rising).0) in
          cc
      | false ↦ λ other. none x (ap (λ b. cond b (Some e.1) (find nat_cmp x es)) other ∙ is)
    ] refl

given_inserted : (es : List (ℕ × ℕ)) → IsRising es → HasNone es → (m : Multiset) → gives m es ≡ inserts m es
given_inserted [] rising none m = refl
given_inserted (e ∷ es) rising none m =
    let some = some_first e es none in
    let test : (e.1 == 0) ≡ false = grind (arith, nat_tests) in
    ap (λ b. gives (cond b (remove m e.0) (insert m e.0 e.1)) es) test
    ∙ given_inserted es (both_true _ _ rising).1 (none_later e es rising none) (insert m e.0 e.1)

-- the entries of a multiset, given to the empty one, give it back
pub gives_all : (m : Multiset) → HasNoZero m → gives empty (entries m) ≡ m
gives_all m none =
    given_inserted (entries m) (entries_sorted m) (λ x is. none x (get-entries m x ∙ is)) empty ∙ inserts_all m
