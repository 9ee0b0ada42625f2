-- One copy more and one copy fewer, as changes of a collection make them: both are total, and each touches one element.
use Rattle.std.proofs.Common.{◌≡◌, ℕ, ◌+◌, ◌-◌, true, false, cond, ◌==◌, nat_lt, Option, Some, None, unwrap_or, if◌then◌else◌, refl, sym}
use Rattle.std.proofs.Common.{ap, subst, ◌∙◌}
use Rattle.std.specs.Cmp.{nat_cmp_total}
use Rattle.std.specs.Ordering.{nat_cmp, eq_by_cmp}
use Rattle.std.specs.FinMap.{get, insert, remove, get-insert, get-remove}
use Rattle.seq_model.specs.declared.limits.TheConstants.{COPY_LIMIT}
use Rattle.seq_model.specs.Counts.{Multiset, copies, with_copies}
use Rattle.conflict.specs.Places.{same_key}

-- one copy more, up to the limit, and one copy fewer, if there is one
abbrev pub one_more : Multiset → ℕ → Multiset
one_more m x = if nat_lt (copies m x) COPY_LIMIT then with_copies m x (copies m x + 1) else m

abbrev pub one_fewer : Multiset → ℕ → Multiset
one_fewer m x = with_copies m x (copies m x - 1)

-- a number of copies, where 0 is absence
abbrev pub some_copies : ℕ → Option ℕ
some_copies c = if c == 0 then None else Some c

abbrev pub more : Option ℕ → Option ℕ
more o = if nat_lt (unwrap_or o 0) COPY_LIMIT then some_copies (unwrap_or o 0 + 1) else o

abbrev pub fewer : Option ℕ → Option ℕ
fewer o = some_copies (unwrap_or o 0 - 1)

-- a change of the element x alone, which makes g of what it was
abbrev pub IsChangeAt : ℕ → (Option ℕ → Option ℕ) → (Multiset → Multiset) → Type 0
IsChangeAt x g f = (m : Multiset) (q : ℕ) → get (f m) q ≡ cond (eq_by_cmp nat_cmp q x) (g (get m x)) (get m q)

pub get_with : (m : Multiset) (x c q : ℕ) → get (with_copies m x c) q ≡ cond (eq_by_cmp nat_cmp q x) (some_copies c) (get m q)
get_with m x c q =
    elim (c == 0) as (λ b. get (cond b (remove m x) (insert m x c)) q ≡ cond (eq_by_cmp nat_cmp q x) (cond b None (Some c)) (get m q))
    [ true ↦ get-remove nat_cmp_total m x q | false ↦ get-insert nat_cmp_total m x c q ]

unchanged : (m : Multiset) (x q : ℕ) → get m q ≡ cond (eq_by_cmp nat_cmp q x) (get m x) (get m q)
unchanged m x q =
    elim (eq_by_cmp nat_cmp q x) as (λ b. eq_by_cmp nat_cmp q x ≡ b → get m q ≡ cond b (get m x) (get m q))
    [ true ↦ λ is. ap (get m) (same_key q x is) | false ↦ λ _. refl ] refl

pub more_at : (x : ℕ) → IsChangeAt x more (λ m. one_more m x)
more_at x m q =
    elim (nat_lt (copies m x) COPY_LIMIT) as (λ b. get (cond b (with_copies m x (copies m x + 1)) m) q
    ≡ cond (eq_by_cmp nat_cmp q x) (cond b (some_copies (copies m x + 1)) (get m x)) (get m q)) [
      | true ↦ get_with m x (copies m x + 1) q
      | false ↦ unchanged m x q
    ]

pub fewer_at : (x : ℕ) → IsChangeAt x fewer (λ m. one_fewer m x)
fewer_at x m q = get_with m x (copies m x - 1) q

module _ (x : ℕ) (g : Option ℕ → Option ℕ) (f : Multiset → Multiset) (at : IsChangeAt x g f) where
  -- what it makes of an element depends on that element alone
  pub changed_by_element : (q : ℕ) (s t : Multiset) → get s q ≡ get t q → get (f s) q ≡ get (f t) q
  changed_by_element q s t same =
      at s q ∙ elim (eq_by_cmp nat_cmp q x) as (λ b. eq_by_cmp nat_cmp q x ≡ b
      → cond b (g (get s x)) (get s q) ≡ cond b (g (get t x)) (get t q)) [
        | true ↦ λ is. ap g (subst (λ y. get s y ≡ get t y) (same_key q x is) same)
        | false ↦ λ _. same
      ] refl ∙ sym (at t q)

  -- and the others remain
  pub unchanged_elsewhere : (q : ℕ) (s : Multiset) → ((q ≡ x) → ⊥) → get s q ≡ get (f s) q
  unchanged_elsewhere q s other =
      elim (eq_by_cmp nat_cmp q x) as (λ b. eq_by_cmp nat_cmp q x ≡ b → get s q ≡ cond b (g (get s x)) (get s q))
      [ true ↦ λ is. absurd (other (same_key q x is)) | false ↦ λ _. refl ] refl ∙ sym (at s q)
