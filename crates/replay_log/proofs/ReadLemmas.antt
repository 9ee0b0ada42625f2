-- What a transaction read first of a location, by one call more, and what its read set has of it: the same, but for a declared reader,
-- which keeps none.
use Rattle.std.proofs.Common.{◌≡◌, ℕ, Bool, true, false, cond, List, [], ◌∷◌, ◌++◌, Option, Some, None, inl, inr, refl, sym, ◌∙◌, ap}
use Rattle.std.proofs.Common.{true≢false, eqb, eq-eqb, ne_eqb}
use Rattle.std.specs.Prelude.{◌==◌, if◌then◌else◌}
use Rattle.std.proofs.lemmas.Bool.{cases_eq, cond-true, cond-false}
use Rattle.seq_model.proofs.LogicLemmas.{some-none}
use Rattle.tx_sets.specs.Entries.{Entries, lookup, with_entry}
use Rattle.tx_machine.specs.Actor.{Call, Read, Write, with_read}
use Rattle.tx_machine.specs.Opacity.{first_read}
use Rattle.tx_machine.proofs.Sets.{lookup-with_entry_same, lookup-with_entry_other}
use Rattle.tx_machine.proofs.Calls.{touched}

pub first_read-write : (cs : List Call) (k v l : ℕ) → first_read (cs ++ Write k v ∷ []) l ≡ first_read cs l
first_read-write [] k v l = elim (eqb l k) as (λ b. cond {A = Option ℕ} b None None ≡ None) [ true ↦ refl | false ↦ refl ]
first_read-write (Read i u ∷ cs) k v l = ap (λ (o : Option ℕ). if l == i then Some u else o) (first_read-write cs k v l)
first_read-write (Write i u ∷ cs) k v l = ap (λ (o : Option ℕ). if l == i then None else o) (first_read-write cs k v l)

pub first_read-other : (cs : List Call) (k v l : ℕ) → (l ≡ k → ⊥) → first_read (cs ++ Read k v ∷ []) l ≡ first_read cs l
first_read-other [] k v l ne = cond-false (eqb l k) (Some v) None (ne_eqb l k ne)
first_read-other (Read i u ∷ cs) k v l ne = ap (λ (o : Option ℕ). if l == i then Some u else o) (first_read-other cs k v l ne)
first_read-other (Write i u ∷ cs) k v l ne = ap (λ (o : Option ℕ). if l == i then None else o) (first_read-other cs k v l ne)

-- where it was neither read nor written
pub first_read-new : (cs : List Call) (l v : ℕ) → first_read cs l ≡ None → touched cs l ≡ false → first_read (cs ++ Read l v ∷ []) l
    ≡ Some v
first_read-new [] l v e h = cond-true (eqb l l) (Some v) None (eq-eqb l l refl)
first_read-new (Read i u ∷ cs) l v e h =
    elim (cases_eq l i) [
      | inl same ↦ absurd (some-none u (sym (cond-true (eqb l i) (Some u) (first_read cs l) (eq-eqb l i same)) ∙ e))
      | inr ne ↦
          cond-false (eqb l i) (Some u) (first_read (cs ++ Read l v ∷ []) l) (ne_eqb l i ne)
          ∙ first_read-new cs l v (sym (cond-false (eqb l i) (Some u) (first_read cs l) (ne_eqb l i ne)) ∙ e) h
    ]
first_read-new (Write i u ∷ cs) l v e h =
    elim (cases_eq l i) [
      | inl same ↦ absurd (true≢false (sym (cond-true (eqb l i) true (touched cs l) (eq-eqb l i same)) ∙ h))
      | inr ne ↦
          cond-false (eqb l i) None (first_read (cs ++ Read l v ∷ []) l) (ne_eqb l i ne)
          ∙ first_read-new cs l v (sym (cond-false (eqb l i) None (first_read cs l) (ne_eqb l i ne)) ∙ e)
          (sym (cond-false (eqb l i) true (touched cs l) (ne_eqb l i ne)) ∙ h)
    ]

-- what a read set has of a location that was first read so
abbrev pub in_set : Bool → Option ℕ → Option ℕ
in_set true o = None
in_set false o = o

pub kept_at : (declared : Bool) (reads : Entries) (cs : List Call) (l v i : ℕ) → lookup reads i ≡ in_set declared (first_read cs i)
    → (i ≡ l → lookup reads l ≡ None) → (i ≡ l → first_read cs l ≡ None → touched cs l ≡ false)
    → lookup (with_read declared reads l v) i ≡ in_set declared (first_read (cs ++ Read l v ∷ []) i)
kept_at true reads cs l v i h new un = h
kept_at false reads cs l v i h new un =
    elim (cases_eq i l) [
      | inl same ↦
          (let none : first_read cs l ≡ None = sym (ap (first_read cs) same) ∙ sym h ∙ ap (lookup reads) same ∙ new same in
          ap (lookup (with_entry reads l v)) same ∙ lookup-with_entry_same reads l v
          ∙ sym (ap (first_read (cs ++ Read l v ∷ [])) same ∙ first_read-new cs l v none (un same none)))
      | inr ne ↦ lookup-with_entry_other reads l v i ne ∙ h ∙ sym (first_read-other cs l v i ne)
    ]
