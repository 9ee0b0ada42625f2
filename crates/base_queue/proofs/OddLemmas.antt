-- Cells of which single ones have been changed since.
use Rattle.std.proofs.Common.{◌≡◌, ℕ, zero, suc, ◌+◌, ◌-◌, ◌<◌, ◌≤◌, Bool, true}
use Rattle.std.proofs.Common.{false, cond, List, [], ◌∷◌, ◌++◌, length, get_or, take, drop}
use Rattle.std.proofs.Common.{Option, Some, None, refl, sym, ap, ◌∙◌, arith}
use Rattle.std.proofs.Common.{Vec, ◌==◌}
use Rattle.std.proofs.Math.Seq.{take-suc}
use Rattle.std.specs.Vec.{vec_len}
use Rattle.std.specs.Cmp.{nat_cmp_total}
use Rattle.std.specs.Ordering.{nat_cmp, eq_by_cmp}
use Rattle.std.specs.FinMap.{FinMap, get, insert, remove, get-empty, get-insert, get-remove}
use Rattle.std.proofs.lemmas.Bool.Decides.{nat_tests}
use Rattle.std.proofs.lemmas.List.{drop-append-le, drop_more, get_or_default, length-drop}
use Rattle.std.proofs.lemmas.List.Sums.{fold-append}
use Rattle.conflict.specs.Places.{same_key, key_itself}
use Rattle.base_queue.specs.Conflicts.{cells_from}
use Rattle.base_queue.specs.FrameLemmas.{below_cells, next_cell, remove_new}
use Rattle.base_queue.specs.SharedList.{with_one, with_odd}

pub odd_pushed : (m : FinMap nat_cmp ℕ) (e : ℕ × Option ℕ) (odd : List (ℕ × Option ℕ))
    → with_odd m (odd ++ e ∷ []) ≡ with_one (with_odd m odd) e
odd_pushed m e odd = fold-append with_one m odd (e ∷ [])

other_index : (q i : ℕ) → ¬ (i ≡ q) → eq_by_cmp nat_cmp q i ≡ false
other_index q i un = elim (eq_by_cmp nat_cmp q i) as (λ b. eq_by_cmp nat_cmp q i ≡ b → b ≡ false) [
  | true ↦ λ is. absurd (un (sym (same_key q i is)))
  | false ↦ λ is. refl
] refl

pub one_other : (m : FinMap nat_cmp ℕ) (q i : ℕ) (x : Option ℕ) → ¬ (i ≡ q) → get (with_one m (i, x)) q ≡ get m q
one_other m q i (Some x) un = get-insert nat_cmp_total m i x q ∙ ap (λ b. cond b (Some x) (get m q)) (other_index q i un)
one_other m q i None un = get-remove nat_cmp_total m i q ∙ ap (λ b. cond b None (get m q)) (other_index q i un)

pub one_same : (m : FinMap nat_cmp ℕ) (i : ℕ) (x : Option ℕ) → get (with_one m (i, x)) i ≡ x
one_same m i (Some x) = get-insert nat_cmp_total m i x i ∙ ap (λ b. cond b (Some x) (get m i)) (key_itself i)
one_same m i None = get-remove nat_cmp_total m i i ∙ ap (λ b. cond b None (get m i)) (key_itself i)

-- ---- items in their cells
pub item_at : (f i d : ℕ) (xs : List ℕ) → i < length xs → get (cells_from f xs) (f + i) ≡ Some (get_or xs i d)
item_at f i d [] lt = absurd (omega arith)
item_at f zero d (x ∷ xs) lt =
    let e : f + 0 ≡ f = omega arith in
    ap (get (cells_from f (x ∷ xs))) e ∙ get-insert nat_cmp_total (cells_from (suc f) xs) f x f
    ∙ ap (λ b. cond b (Some x) (get (cells_from (suc f) xs) f)) (key_itself f)
item_at f (suc i) d (x ∷ xs) lt =
    let e : f + suc i ≡ suc f + i = omega arith in
    let other : eq_by_cmp nat_cmp (suc f + i) f ≡ false = grind (arith, nat_tests) in
    ap (get (cells_from f (x ∷ xs))) e ∙ get-insert nat_cmp_total (cells_from (suc f) xs) f x (suc f + i)
    ∙ ap (λ b. cond b (Some x) (get (cells_from (suc f) xs) (suc f + i))) other ∙ item_at (suc f) i d xs (omega arith)

pub past_items : (f q : ℕ) (xs : List ℕ) → f + length xs ≤ q → get (cells_from f xs) q ≡ None
past_items f q [] le = get-empty nat_cmp q
past_items f q (x ∷ xs) le =
    let other : eq_by_cmp nat_cmp q f ≡ false = grind (arith, nat_tests) in
    get-insert nat_cmp_total (cells_from (suc f) xs) f x q ∙ ap (λ b. cond b (Some x) (get (cells_from (suc f) xs) q)) other
    ∙ past_items (suc f) q xs (omega arith)

-- the first item goes
pub first_gone : (f : ℕ) (xs : List ℕ) (x : ℕ) (rest : List ℕ) → xs ≡ x ∷ rest → remove (cells_from f xs) f ≡ cells_from (f + 1) rest
first_gone f xs x rest is =
    let next : suc f ≡ f + 1 = omega arith in
    ap (λ t. remove (cells_from f t) f) is ∙ remove_new (cells_from (suc f) rest) f x (below_cells (suc f) f rest (omega arith))
    ∙ ap (λ k. cells_from k rest) next

pub front_taken : (m : FinMap nat_cmp ℕ) (f g index : ℕ) (xs : List ℕ) (odd : List (ℕ × Option ℕ)) → odd ≡ [] → index ≡ f → g < length xs
    → m ≡ with_odd (cells_from f (drop g xs)) odd → with_odd (cells_from (f + 1) (drop (g + 1) xs)) odd ≡ remove m index
front_taken m f g index xs odd none at lt is =
    (λ i. with_odd (cells_from (f + 1) (drop (g + 1) xs)) (none i))
    ∙ sym (first_gone f (drop g xs) (get_or xs g 0) (drop (g + 1) xs) (drop_more xs g 0 lt))
    ∙ sym ((λ i. remove (is i) (at i)) ∙ (λ i. remove (with_odd (cells_from f (drop g xs)) (none i)) f))

-- an item comes in at the back
pub back_put : (m : FinMap nat_cmp ℕ) (f g index x : ℕ) (xs : List ℕ) (odd : List (ℕ × Option ℕ)) → odd ≡ [] → g ≤ length xs
    → index ≡ f + (length xs - g) → m ≡ with_odd (cells_from f (drop g xs)) odd
    → with_odd (cells_from f (drop g (xs ++ x ∷ []))) odd ≡ insert m index x
back_put m f g index x xs odd none le at is =
    let place : index ≡ f + length (drop g xs) = at ∙ ap (λ k. f + k) (sym (length-drop g xs)) in
    (λ i. with_odd (cells_from f (drop-append-le g xs (x ∷ []) le i)) (none i)) ∙ sym (next_cell f x (drop g xs))
    ∙ sym ((λ i. insert (is i) (place i) x) ∙ (λ i. insert (with_odd (cells_from f (drop g xs)) (none i)) (f + length (drop g xs)) x))

-- ---- a look from the last change back
no_items : (xs : List (ℕ × Option ℕ)) → length xs ≡ 0 → xs ≡ []
no_items [] e = refl
no_items (x ∷ xs) e = absurd (omega arith)

pub no_odd : {Z : Type 0} (v : Vec (ℕ × Option ℕ) Z) (b : Bool) → b ≡ true → b ≡ (vec_len v == 0) → v.items ≡ []
no_odd v b on is =
    let zero_len : vec_len v ≡ 0 = grind (arith, nat_tests, is, on) in
    no_items v.items (omega (arith, zero_len, v.ok.0))

pub found_odd : (m : FinMap nat_cmp ℕ) (odd : List (ℕ × Option ℕ)) (at i q : ℕ) (d e : ℕ × Option ℕ) → suc i ≡ at → i < length odd
    → d ≡ get_or odd i d → e ≡ get_or odd i e → d.0 ≡ q → e.1 ≡ get (with_odd m (take at odd)) q
found_odd m odd at i q d e next lt first second is =
    let same : d ≡ e = first ∙ get_or_default odd i d e lt ∙ sym second in
    let key : e.0 ≡ q = sym (ap (λ p. p.0) same) ∙ is in
    sym (ap (λ k. get (with_odd m (take k odd)) q) (sym next) ∙ ap (λ t. get (with_odd m t) q) (take-suc odd i e lt)
    ∙ ap (λ f. get f q) (odd_pushed m (get_or odd i e) (take i odd)) ∙ ap (λ p. get (with_one (with_odd m (take i odd)) p) q) (sym second)
    ∙ ap (get (with_one (with_odd m (take i odd)) e)) (sym key) ∙ one_same (with_odd m (take i odd)) e.0 e.1)

pub passed_odd : (m : FinMap nat_cmp ℕ) (odd : List (ℕ × Option ℕ)) (at i q : ℕ) (d : ℕ × Option ℕ) → suc i ≡ at → i < length odd
    → d ≡ get_or odd i d → ¬ (d.0 ≡ q) → get (with_odd m (take at odd)) q ≡ get (with_odd m (take i odd)) q
passed_odd m odd at i q d next lt first un =
    ap (λ k. get (with_odd m (take k odd)) q) (sym next) ∙ ap (λ t. get (with_odd m t) q) (take-suc odd i d lt)
    ∙ ap (λ f. get f q) (odd_pushed m (get_or odd i d) (take i odd)) ∙ ap (λ p. get (with_one (with_odd m (take i odd)) p) q) (sym first)
    ∙ one_other (with_odd m (take i odd)) q d.0 d.1 un
