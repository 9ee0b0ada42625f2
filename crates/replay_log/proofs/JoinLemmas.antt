-- Finite maps of numbers, taken apart by the places of their keys and joined again. A look-up in a part finds what the map has
-- at the keys of its place, and one in the joined map what the part of the key's place has; so a map is the join of its parts.
use Rattle.std.proofs.Common.{◌≡◌, ℕ, zero, suc, ◌<◌, ◌≤◌, Bool, true, false, cond, eqb, List, [], ◌∷◌, Option, Some, None, inl, inr, refl}
use Rattle.std.proofs.Common.{sym, ap, ◌∙◌, arith, eq-eqb, ne_eqb}
use Rattle.std.proofs.lemmas.Bool.{cases_eq}
use Rattle.std.specs.Cmp.{nat_cmp_total}
use Rattle.std.specs.Ordering.{nat_cmp, eq_by_cmp}
use Rattle.std.specs.FinMap.{FinMap, find, entries, get, get-empty, get-entries, get-insert, get-retain_keys, nat_cmp-IsAntisymmetric}
use Rattle.replay_log.specs.Parts.{kept, overlaid, joined}

choose : {A : Type 0} → Option A → Option A → Option A
choose (Some x) y = Some x
choose None y = y

choose_none : {A : Type 0} (x : Option A) → choose x None ≡ x
unfolding choose
choose_none (Some x) = refl
choose_none None = refl

choose_if : {A : Type 0} (b : Bool) (x : A) (y z : Option A) → cond b (Some x) (choose y z) ≡ choose (cond b (Some x) y) z
unfolding choose
choose_if true x y z = refl
choose_if false x y z = refl

module _ {X : Type 0} where
  pub get_kept : (place : ℕ → ℕ) (l : ℕ) (m : FinMap nat_cmp X) (q : ℕ) → get (kept place l m) q ≡ cond (eqb (place q) l) (get m q) None
  get_kept place l m q = get-retain_keys m (λ k. eqb (place k) l) q (λ x e. ap (λ k. eqb (place k) l) (sym (nat_cmp-IsAntisymmetric q x e)))

  get_overlaid : (es : List (ℕ × X)) (m : FinMap nat_cmp X) (q : ℕ) → get (overlaid es m) q ≡ choose (find nat_cmp q es) (get m q)
  unfolding choose
  get_overlaid [] m q = refl
  get_overlaid (e ∷ es) m q =
      get-insert nat_cmp_total (overlaid es m) e.0 e.1 q ∙ ap (cond (eq_by_cmp nat_cmp q e.0) (Some e.1)) (get_overlaid es m q)
      ∙ choose_if (eq_by_cmp nat_cmp q e.0) e.1 (find nat_cmp q es) (get m q)

  get_next : (place : ℕ → ℕ) (n : ℕ) (v : ℕ → FinMap nat_cmp X) (q : ℕ) → get (joined place (suc n) v) q
      ≡ choose (cond (eqb (place q) n) (get (v n) q) None) (get (joined place n v) q)
  get_next place n v q =
      get_overlaid (entries (kept place n (v n))) (joined place n v) q
      ∙ ap (λ o. choose o (get (joined place n v) q)) (sym (get-entries (kept place n (v n)) q) ∙ get_kept place n (v n) q)

  get_beyond : (place : ℕ → ℕ) (n : ℕ) (v : ℕ → FinMap nat_cmp X) (q : ℕ) → n ≤ place q → get (joined place n v) q ≡ None
  unfolding choose
  get_beyond place zero v q le = get-empty nat_cmp q
  get_beyond place (suc n) v q le =
      get_next place n v q
      ∙ ap (λ b. choose (cond b (get (v n) q) None) (get (joined place n v) q)) (ne_eqb (place q) n (λ e. omega (arith, le, e)))
      ∙ get_beyond place n v q (omega (arith, le))

  -- a join has of each key what the map of its place has
  pub get_joined : (place : ℕ → ℕ) (n : ℕ) (v : ℕ → FinMap nat_cmp X) (q : ℕ) → place q < n → get (joined place n v) q ≡ get (v (place q)) q
  unfolding choose
  get_joined place zero v q lt = absurd (omega (arith, lt))
  get_joined place (suc n) v q lt =
      get_next place n v q ∙ elim (cases_eq (place q) n) [
        | inl e ↦
            ap (λ b. choose (cond b (get (v n) q) None) (get (joined place n v) q)) (eq-eqb (place q) n e)
            ∙ ap (choose (get (v n) q)) (get_beyond place n v q (omega (arith, e)))
            ∙ choose_none (get (v n) q) ∙ ap (λ i. get (v i) q) (sym e)
        | inr ne ↦
            ap (λ b. choose (cond b (get (v n) q) None) (get (joined place n v) q)) (ne_eqb (place q) n ne)
            ∙ get_joined place n v q (omega (arith, lt, ne))
      ]
