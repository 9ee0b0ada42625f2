-- What follows from the frame laws, for each kind of collection.
use Rattle.std.proofs.Common.{◌≡◌, ◌≢◌, ℕ, zero, suc, ◌<◌, ◌⊎◌, inl, inr, true, false, List, [], ◌∷◌, Some, Any, Contains, refl, sym, ◌∙◌}
use Rattle.std.proofs.Common.{nat_eq, arith}
use Rattle.std.proofs.lemmas.Bool.Decides.{nat_tests}
use Rattle.seq_model.specs.declared.call.Op.{Op}
use Rattle.conflict.specs.declared.change.Change.{Change}
use Rattle.conflict.specs.declared.outcome.Outcome.{Outcome}
use Rattle.conflict.specs.Rules.{Rules, FrameLaws, applied, SamePart, Commute, DisjointChangesCommute}

later : (x l : ℕ) (xs : List ℕ) → Contains xs l → Contains (x ∷ xs) l
later x l xs c = (suc c.0, omega (arith, c.1), c.2)

not_later : (x l : ℕ) (xs : List ℕ) → x ≢ l → ¬ Contains xs l → ¬ Contains (x ∷ xs) l
not_later x l xs no_head no_tail (zero, lt, e) = no_head e
not_later x l xs no_head no_tail (suc k, lt, e) = no_tail (k, omega (arith, lt), e)

same_number : (x l : ℕ) → nat_eq x l ≡ true → x ≡ l
same_number x l h = grind (arith, nat_tests)

other_number : (x l : ℕ) → nat_eq x l ≡ false → x ≢ l
other_number x l h = grind (arith, nat_tests)

-- a list of numbers has l or not
pub decided : (xs : List ℕ) (l : ℕ) → Contains xs l ⊎ (¬ Contains xs l)
decided [] l = inr (λ c. omega (arith, c.1))
decided (x ∷ xs) l =
    elim (nat_eq x l) as (λ b. nat_eq x l ≡ b → Contains (x ∷ xs) l ⊎ (¬ Contains (x ∷ xs) l)) [
      | true ↦ λ is. inl (0, omega arith, same_number x l is)
      | false ↦ λ is. elim (decided xs l) as (λ _. Contains (x ∷ xs) l ⊎ (¬ Contains (x ∷ xs) l))
          [ inl c ↦ inl (later x l xs c) | inr c ↦ inr (not_later x l xs (other_number x l is) c) ]
    ] refl

-- an element of both
shared : (xs ys : List ℕ) (l : ℕ) → Contains xs l → Contains ys l → Any (Contains ys) xs
shared xs ys l (k, lt, e) c = (k, l, lt, e, c)

module _ {V C Q A : Type 0} (r : Rules V C Q A) (laws : FrameLaws r) where
  by_point_all : (q : Q) (cs : List (Change V)) (s t : C) → r.look s q ≡ r.look t q → r.look (applied r cs s) q ≡ r.look (applied r cs t) q
  by_point_all q [] s t same = same
  by_point_all q (c ∷ cs) s t same = by_point_all q cs (r.change s c) (r.change t c) (laws.by_part c q s t same)

  pub changes_by_part : (n l : ℕ) (cs : List (Change V)) (s t : C) → SamePart r n l s t → SamePart r n l (applied r cs s) (applied r cs t)
  changes_by_part n l cs s t same q on = by_point_all q cs s t (same q on)

  pub disjoint_changes_commute : DisjointChangesCommute r
  disjoint_changes_commute n w v cs ds s within_w within_v apart =
      laws.parts_decide _ _ (λ q.
      let l = r.location n q in
      elim (decided w l) as (λ _. r.look (applied r ds (applied r cs s)) q ≡ r.look (applied r cs (applied r ds s)) q) [
        | inl c ↦
            let outside : ¬ Contains v l = λ d. apart (shared w v l c d) in
            sym (within_v l (applied r cs s) outside q refl) ∙ by_point_all q cs s (applied r ds s) (within_v l s outside q refl)
        | inr c ↦
            by_point_all q ds (applied r cs s) s (sym (within_w l s c q refl)) ∙ within_w l (applied r ds s) c q refl
      ])

  pub legal_after : (n : ℕ) (op : Op V) (a b : Outcome V) (s : C) → 0 < n → r.outcome op s ≡ Some b
      → ¬ Any (Contains (r.reads n b)) (r.writes n a) → r.outcome op (applied r (r.changes a) s) ≡ Some b
  legal_after n op a b s pos is apart =
      laws.legal n op s (applied r (r.changes a) s) b pos is (λ l c. laws.untouched n l a s
      (λ d. apart (shared (r.writes n a) (r.reads n b) l d c)))

  pub commute : Commute r
  commute n p q a b s pos is_a is_b apart =
      let written_apart : ¬ Any (Contains (r.writes n b)) (r.writes n a) = λ y. apart
      (inl (y.0, y.1, y.2, y.3, laws.writes_read n y.1 b pos y.4)) in (
        legal_after n q a b s pos is_b (λ y. apart (inl y)),
        (
          legal_after n p b a s pos is_a (λ y. apart (inr y)),
          disjoint_changes_commute n (r.writes n a) (r.writes n b) (r.changes a) (r.changes b) s (λ l t. laws.untouched n l a t)
              (λ l t. laws.untouched n l b t) written_apart,
        ),
      )
