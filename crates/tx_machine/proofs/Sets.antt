-- Functions with a value put at a place, finite maps, lists of locations.
use Rattle.std.proofs.Common.{◌≡◌, ℕ, cond, eqb, ltb, Option, Some, None, List, [], ◌∷◌, ◌++◌, ◌⊎◌, inl, inr, refl, sym, ap, ◌∙◌, eq-eqb}
use Rattle.std.proofs.Common.{ne_eqb, eqb-true}
use Rattle.std.proofs.lemmas.Bool.{eqb-false, cond_both, cond-true, cond-false, cases_eq}
use Rattle.tx_sets.specs.Entries.{Entries, lookup, with_entry, locations}
use Rattle.tx_machine.specs.World.{put}

pub put-same : {A : Type 0} → (f : ℕ → A) (k : ℕ) (x : A) → put f k x k ≡ x
unfolding put
put-same f k x = cond-true (eqb k k) x (f k) (eq-eqb k k refl)

pub put-other : {A : Type 0} → (f : ℕ → A) (k : ℕ) (x : A) (i : ℕ) → (i ≡ k → ⊥) → put f k x i ≡ f i
unfolding put
put-other f k x i ne = cond-false (eqb i k) x (f i) (ne_eqb i k ne)

-- what holds of x at k, and of f elsewhere
pub put_both : {A : Type 0} → (P : A → Type 0) (f : ℕ → A) (k : ℕ) (x : A) (i : ℕ) → (i ≡ k → P x) → ((i ≡ k → ⊥) → P (f i))
    → P (put f k x i)
unfolding put
put_both P f k x i same other = cond_both (eqb i k) x (f i) P (λ e. same (eqb-true i k e)) (λ e. other (eqb-false i k e))

pub lookup-with_entry_same : (es : Entries) (l v : ℕ) → lookup (with_entry es l v) l ≡ Some v
unfolding lookup with_entry
lookup-with_entry_same [] l v = cond-true (eqb l l) (Some v) None (eq-eqb l l refl)
lookup-with_entry_same (e ∷ es) l v =
    cond_both (ltb l e.0) ((l, v) ∷ (e ∷ es)) _ (λ (z : Entries). lookup z l ≡ Some v)
    (λ _. cond-true (eqb l l) (Some v) _ (eq-eqb l l refl))
    (λ _. cond_both (eqb l e.0) ((l, v) ∷ es) (e ∷ with_entry es l v) (λ (z : Entries). lookup z l ≡ Some v)
    (λ _. cond-true (eqb l l) (Some v) _ (eq-eqb l l refl))
    (λ ne. cond-false (eqb l e.0) (Some e.1) _ ne ∙ lookup-with_entry_same es l v))

pub lookup-with_entry_other : (es : Entries) (l v k : ℕ) → (k ≡ l → ⊥) → lookup (with_entry es l v) k ≡ lookup es k
unfolding lookup with_entry
lookup-with_entry_other [] l v k ne = cond-false (eqb k l) (Some v) None (ne_eqb k l ne)
lookup-with_entry_other (e ∷ es) l v k ne =
    cond_both (ltb l e.0) ((l, v) ∷ (e ∷ es)) _ (λ (z : Entries). lookup z k ≡ lookup (e ∷ es) k)
    (λ _. cond-false (eqb k l) (Some v) _ (ne_eqb k l ne))
    (λ _. cond_both (eqb l e.0) ((l, v) ∷ es) (e ∷ with_entry es l v) (λ (z : Entries). lookup z k ≡ lookup (e ∷ es) k)
    (λ same. cond-false (eqb k l) (Some v) _ (ne_eqb k l ne)
    ∙ sym (cond-false (eqb k e.0) (Some e.1) (lookup es k) (ne_eqb k e.0 (λ h. ne (h ∙ sym (eqb-true l e.0 same))))))
    (λ _. ap (λ (z : Option ℕ). cond (eqb k e.0) (Some e.1) z) (lookup-with_entry_other es l v k ne)))

-- an entry after one was set
pub with_entry_cases : (es : Entries) (l v k u : ℕ) → lookup (with_entry es l v) k ≡ Some u
    → ((k ≡ l) × (u ≡ v)) ⊎ ((k ≡ l → ⊥) × (lookup es k ≡ Some u))
with_entry_cases es l v k u h =
    elim (cases_eq k l) [
      | inl e ↦ let same : Some u ≡ Some v = sym h ∙ ap (lookup (with_entry es l v)) e ∙ lookup-with_entry_same es l v in inl (e, cc)
      | inr ne ↦ inr (ne, sym (lookup-with_entry_other es l v k ne) ∙ h)
    ]

pub lookup-head : (e : ℕ × ℕ) (es : Entries) → lookup (e ∷ es) e.0 ≡ Some e.1
unfolding lookup
lookup-head e es = cond-true (eqb e.0 e.0) (Some e.1) (lookup es e.0) (eq-eqb e.0 e.0 refl)

pub lookup-tail : (e : ℕ × ℕ) (es : Entries) (l : ℕ) → (l ≡ e.0 → ⊥) → lookup (e ∷ es) l ≡ lookup es l
unfolding lookup
lookup-tail e es l ne = cond-false (eqb l e.0) (Some e.1) (lookup es l) (ne_eqb l e.0 ne)

-- no location has two entries
abbrev pub IsUnique : Entries → Type 0
IsUnique [] = Unit {0}
IsUnique (e ∷ es) = (lookup es e.0 ≡ None) × IsUnique es

-- an entry put at the end
pub lookup-push_same : (es : Entries) (l v : ℕ) → lookup es l ≡ None → lookup (es ++ (l, v) ∷ []) l ≡ Some v
unfolding lookup
lookup-push_same [] l v none = cond-true (eqb l l) (Some v) None (eq-eqb l l refl)
lookup-push_same (e ∷ es) l v none =
    elim (cases_eq l e.0) [
      | inl q ↦ let x : Some e.1 ≡ None = sym (cond-true (eqb l e.0) (Some e.1) (lookup es l) (eq-eqb l e.0 q))
          ∙ none in absurd (let b : ⊥ = cc in b)
      | inr ne ↦
          cond-false (eqb l e.0) (Some e.1) (lookup (es ++ (l, v) ∷ []) l) (ne_eqb l e.0 ne)
          ∙ lookup-push_same es l v (sym (cond-false (eqb l e.0) (Some e.1) (lookup es l) (ne_eqb l e.0 ne)) ∙ none)
    ]

pub lookup-push_other : (es : Entries) (l v k : ℕ) → (k ≡ l → ⊥) → lookup (es ++ (l, v) ∷ []) k ≡ lookup es k
unfolding lookup
lookup-push_other [] l v k ne = cond-false (eqb k l) (Some v) None (ne_eqb k l ne)
lookup-push_other (e ∷ es) l v k ne = ap (λ (z : Option ℕ). cond (eqb k e.0) (Some e.1) z) (lookup-push_other es l v k ne)

pub push_cases : (es : Entries) (l v k u : ℕ) → lookup es l ≡ None → lookup (es ++ (l, v) ∷ []) k ≡ Some u
    → ((k ≡ l) × (u ≡ v)) ⊎ ((k ≡ l → ⊥) × (lookup es k ≡ Some u))
push_cases es l v k u none h =
    elim (cases_eq k l) [
      | inl e ↦ let same : Some u ≡ Some v = sym h ∙ ap (lookup (es ++ (l, v) ∷ [])) e ∙ lookup-push_same es l v none in inl (e, cc)
      | inr ne ↦ inr (ne, sym (lookup-push_other es l v k ne) ∙ h)
    ]

pub IsUnique-push : (es : Entries) (l v : ℕ) → IsUnique es → lookup es l ≡ None → IsUnique (es ++ (l, v) ∷ [])
unfolding lookup
IsUnique-push [] l v u h = (refl, tt)
IsUnique-push (e ∷ es) l v u h =
    elim (cases_eq l e.0) [
      | inl q ↦ let x : Some e.1 ≡ None = sym (cond-true (eqb l e.0) (Some e.1) (lookup es l) (eq-eqb l e.0 q))
          ∙ h in absurd (let b : ⊥ = cc in b)
      | inr ne ↦ (
        lookup-push_other es l v e.0 (λ q. ne (sym q)) ∙ u.0,
        IsUnique-push es l v u.1 (sym (cond-false (eqb l e.0) (Some e.1) (lookup es l) (ne_eqb l e.0 ne)) ∙ h),
      )
    ]

-- an entry of the rest is one of the whole, elsewhere than at the head
pub rest_entry : (e : ℕ × ℕ) (es : Entries) (l v : ℕ) → IsUnique (e ∷ es) → lookup es l ≡ Some v → (l ≡ e.0 → ⊥)
    × (lookup (e ∷ es) l ≡ Some v)
rest_entry e es l v u h =
    let ne : l ≡ e.0 → ⊥ = λ q. let x : Some v ≡ None = sym h ∙ ap (lookup es) q ∙ u.0 in cc in
    (ne, lookup-tail e es l ne ∙ h)

abbrev pub Member : ℕ → List ℕ → Type 0
Member l [] = ⊥
Member l (k ∷ ks) = (l ≡ k) ⊎ Member l ks

pub member_locations : (es : Entries) (l v : ℕ) → lookup es l ≡ Some v → Member l (locations es)
unfolding lookup locations
member_locations [] l v h = let x : Some v ≡ None = sym h in cc
member_locations (e ∷ es) l v h =
    elim (cases_eq l e.0) [ inl q ↦ inl q | inr ne ↦ inr (member_locations es l v (sym (lookup-tail e es l ne) ∙ h)) ]

pub locations_member : (es : Entries) (l : ℕ) → Member l (locations es) → (v : ℕ) × (lookup es l ≡ Some v)
unfolding lookup locations
locations_member [] l h = absurd h
locations_member (e ∷ es) l h =
    elim (cases_eq l e.0) [
      | inl q ↦ (e.1, cond-true (eqb l e.0) (Some e.1) (lookup es l) (eq-eqb l e.0 q))
      | inr ne ↦
          let r : Member l (locations es) = elim h [ inl q ↦ absurd (ne q) | inr m ↦ m ] in
          let t = locations_member es l r in (t.0, lookup-tail e es l ne ∙ t.1)
    ]
