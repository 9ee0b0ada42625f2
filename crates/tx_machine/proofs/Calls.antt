-- What a transaction's calls do to one location.
use Rattle.std.proofs.Common.{◌≡◌, ℕ, Bool, true, false, eqb, Some, None, List, [], ◌∷◌, ◌++◌, ◌==◌, inl, inr, refl, sym, ap, ◌∙◌, eq-eqb}
use Rattle.std.proofs.Common.{ne_eqb, true≢false}
use Rattle.std.specs.Prelude.{if◌then◌else◌}
use Rattle.std.proofs.lemmas.Bool.{cond_both, cond-true, cond-false, cases_eq}
use Rattle.tx_sets.specs.Entries.{Entries, lookup, with_entry}
use Rattle.tx_machine.specs.Actor.{Call, Read, Write}
use Rattle.tx_machine.specs.World.{Memory, put}
use Rattle.tx_machine.specs.Opacity.{after, IsLegal, first_read}
use Rattle.tx_machine.proofs.Sets.{put-other, lookup-with_entry_same, lookup-with_entry_other, with_entry_cases}

-- whether the calls write l
abbrev pub touched : List Call → ℕ → Bool
touched [] l = false
touched (Read k v ∷ cs) l = touched cs l
touched (Write k v ∷ cs) l = if l == k then true else touched cs l

-- what l holds after the calls, from d
abbrev pub final : List Call → ℕ → ℕ → ℕ
final [] l d = d
final (Read k v ∷ cs) l d = final cs l d
final (Write k v ∷ cs) l d = final cs l (if l == k then v else d)

pub after-final : (cs : List Call) (m : Memory) (l : ℕ) → after m cs l ≡ final cs l (m l)
unfolding after put
after-final [] m l = refl
after-final (Read k v ∷ cs) m l = after-final cs m l
after-final (Write k v ∷ cs) m l = after-final cs (put m k v) l

pub final_untouched : (cs : List Call) (l d : ℕ) → touched cs l ≡ false → final cs l d ≡ d
final_untouched [] l d h = refl
final_untouched (Read k v ∷ cs) l d h = final_untouched cs l d h
final_untouched (Write k v ∷ cs) l d h =
    elim (cases_eq l k) [
      | inl q ↦ absurd (true≢false (sym (cond-true (eqb l k) true (touched cs l) (eq-eqb l k q)) ∙ h))
      | inr ne ↦
          ap (final cs l) (cond-false (eqb l k) v d (ne_eqb l k ne))
          ∙ final_untouched cs l d (sym (cond-false (eqb l k) true (touched cs l) (ne_eqb l k ne)) ∙ h)
    ]

pub final_touched : (cs : List Call) (l d e : ℕ) → touched cs l ≡ true → final cs l d ≡ final cs l e
final_touched [] l d e h = absurd (true≢false (sym h))
final_touched (Read k v ∷ cs) l d e h = final_touched cs l d e h
final_touched (Write k v ∷ cs) l d e h =
    elim (cases_eq l k) [
      | inl q ↦ ap (final cs l) (cond-true (eqb l k) v d (eq-eqb l k q) ∙ sym (cond-true (eqb l k) v e (eq-eqb l k q)))
      | inr ne ↦
          ap (final cs l) (cond-false (eqb l k) v d (ne_eqb l k ne))
          ∙ final_touched cs l d e (sym (cond-false (eqb l k) true (touched cs l) (ne_eqb l k ne)) ∙ h)
          ∙ ap (final cs l) (sym (cond-false (eqb l k) v e (ne_eqb l k ne)))
    ]

-- the calls and one more
pub touched-read : (cs : List Call) (k v l : ℕ) → touched (cs ++ Read k v ∷ []) l ≡ touched cs l
touched-read [] k v l = refl
touched-read (Read i u ∷ cs) k v l = touched-read cs k v l
touched-read (Write i u ∷ cs) k v l = ap (λ (z : Bool). if l == i then true else z) (touched-read cs k v l)

pub final-read : (cs : List Call) (k v l d : ℕ) → final (cs ++ Read k v ∷ []) l d ≡ final cs l d
final-read [] k v l d = refl
final-read (Read i u ∷ cs) k v l d = final-read cs k v l d
final-read (Write i u ∷ cs) k v l d = final-read cs k v l (if l == i then u else d)

pub final-write : (cs : List Call) (k v l d : ℕ) → final (cs ++ Write k v ∷ []) l d ≡ (if l == k then v else final cs l d)
final-write [] k v l d = refl
final-write (Read i u ∷ cs) k v l d = final-write cs k v l d
final-write (Write i u ∷ cs) k v l d = final-write cs k v l (if l == i then u else d)

pub touched-write_same : (cs : List Call) (k v : ℕ) → touched (cs ++ Write k v ∷ []) k ≡ true
touched-write_same [] k v = cond-true (eqb k k) true false (eq-eqb k k refl)
touched-write_same (Read i u ∷ cs) k v = touched-write_same cs k v
touched-write_same (Write i u ∷ cs) k v =
    cond_both (eqb k i) true (touched (cs ++ Write k v ∷ []) k) (λ (z : Bool). z ≡ true) (λ _. refl) (λ _. touched-write_same cs k v)

pub touched-write_other : (cs : List Call) (k v l : ℕ) → (l ≡ k → ⊥) → touched (cs ++ Write k v ∷ []) l ≡ touched cs l
touched-write_other [] k v l ne = cond-false (eqb l k) true false (ne_eqb l k ne)
touched-write_other (Read i u ∷ cs) k v l ne = touched-write_other cs k v l ne
touched-write_other (Write i u ∷ cs) k v l ne = ap (λ (z : Bool). if l == i then true else z) (touched-write_other cs k v l ne)

pub IsLegal-read : (cs : List Call) (m : Memory) (k v : ℕ) → IsLegal m cs → after m cs k ≡ v → IsLegal m (cs ++ Read k v ∷ [])
unfolding IsLegal after
IsLegal-read [] m k v h e = (e, tt)
IsLegal-read (Read i u ∷ cs) m k v h e = (h.0, IsLegal-read cs m k v h.1 e)
IsLegal-read (Write i u ∷ cs) m k v h e = IsLegal-read cs (put m i u) k v h e

pub IsLegal-write : (cs : List Call) (m : Memory) (k v : ℕ) → IsLegal m cs → IsLegal m (cs ++ Write k v ∷ [])
unfolding IsLegal
IsLegal-write [] m k v h = tt
IsLegal-write (Read i u ∷ cs) m k v h = (h.0, IsLegal-write cs m k v h.1)
IsLegal-write (Write i u ∷ cs) m k v h = IsLegal-write cs (put m i u) k v h

-- legal at a memory is legal at one with the same words
pub IsLegal-same : (cs : List Call) (m n : Memory) → ((l : ℕ) → m l ≡ n l) → IsLegal m cs → IsLegal n cs
unfolding IsLegal put
IsLegal-same [] m n same h = tt
IsLegal-same (Read i u ∷ cs) m n same h = (sym (same i) ∙ h.0, IsLegal-same cs m n same h.1)
IsLegal-same (Write i u ∷ cs) m n same h =
    IsLegal-same cs (put m i u) (put n i u) (λ l. ap (λ (z : ℕ). if l == i then u else z) (same l)) h

-- it replied what the memory held before the calls
pub first_read_is : (cs : List Call) (m : Memory) (l v : ℕ) → IsLegal m cs → first_read cs l ≡ Some v → m l ≡ v
unfolding IsLegal
first_read_is [] m l v h e = let x : Some v ≡ None = sym e in cc
first_read_is (Read k u ∷ cs) m l v h e =
    elim (cases_eq l k) [
      | inl q ↦ (let x : Some u ≡ Some v = sym (cond-true (eqb l k) (Some u) (first_read cs l) (eq-eqb l k q)) ∙ e in let y : u
          ≡ v = cc in ap m q ∙ h.0 ∙ y)
      | inr ne ↦ first_read_is cs m l v h.1 (sym (cond-false (eqb l k) (Some u) (first_read cs l) (ne_eqb l k ne)) ∙ e)
    ]
first_read_is (Write k u ∷ cs) m l v h e =
    elim (cases_eq l k) [
      | inl q ↦ (let x : None ≡ Some v = sym (cond-true (eqb l k) None (first_read cs l) (eq-eqb l k q)) ∙ e in cc)
      | inr ne ↦ sym (put-other m k u l ne) ∙ first_read_is cs (put m k u) l v h
          (sym (cond-false (eqb l k) None (first_read cs l) (ne_eqb l k ne)) ∙ e)
    ]

-- further calls leave it
pub first_read-more : (cs ds : List Call) (l v : ℕ) → first_read cs l ≡ Some v → first_read (cs ++ ds) l ≡ Some v
first_read-more [] ds l v e = let x : Some v ≡ None = sym e in cc
first_read-more (Read k u ∷ cs) ds l v e =
    elim (cases_eq l k) [
      | inl q ↦ cond-true (eqb l k) (Some u) (first_read (cs ++ ds) l) (eq-eqb l k q)
          ∙ sym (cond-true (eqb l k) (Some u) (first_read cs l) (eq-eqb l k q)) ∙ e
      | inr ne ↦ cond-false (eqb l k) (Some u) (first_read (cs ++ ds) l) (ne_eqb l k ne)
          ∙ first_read-more cs ds l v (sym (cond-false (eqb l k) (Some u) (first_read cs l) (ne_eqb l k ne)) ∙ e)
    ]
first_read-more (Write k u ∷ cs) ds l v e =
    elim (cases_eq l k) [
      | inl q ↦ (let x : None ≡ Some v = sym (cond-true (eqb l k) None (first_read cs l) (eq-eqb l k q)) ∙ e in cc)
      | inr ne ↦ cond-false (eqb l k) None (first_read (cs ++ ds) l) (ne_eqb l k ne)
          ∙ first_read-more cs ds l v (sym (cond-false (eqb l k) None (first_read cs l) (ne_eqb l k ne)) ∙ e)
    ]

-- m holds what was read
abbrev pub Agrees : Memory → Entries → Type 0
Agrees m reads = (l v : ℕ) → lookup reads l ≡ Some v → m l ≡ v

-- What the write set of a transaction says of its calls.
pub record Sets (writes : Entries) (calls : List Call) : Type 0 where
  pub not_written : (l : ℕ) → lookup writes l ≡ None → touched calls l ≡ false
  pub written : (l v : ℕ) → lookup writes l ≡ Some v → touched calls l ≡ true
  pub last : (l v : ℕ) → lookup writes l ≡ Some v → (d : ℕ) → final calls l d ≡ v

pub Sets-none : Sets [] []
unfolding lookup
Sets-none = record {
  not_written = λ l h. refl;
  written = λ l v h. let x : Some v ≡ None = sym h in cc;
  last = λ l v h d. let x : Some v ≡ None = sym h in cc;
}

pub Sets-read : (w : Entries) (cs : List Call) (k v : ℕ) → Sets w cs → Sets w (cs ++ Read k v ∷ [])
Sets-read w cs k v s = record {
  not_written = λ l q. touched-read cs k v l ∙ s.not_written l q;
  written = λ l u q. touched-read cs k v l ∙ s.written l u q;
  last = λ l u q d. final-read cs k v l d ∙ s.last l u q d;
}

pub Sets-write : (w : Entries) (cs : List Call) (k v : ℕ) → Sets w cs → Sets (with_entry w k v) (cs ++ Write k v ∷ [])
Sets-write w cs k v s = record {
  not_written = λ l q.
      elim (cases_eq l k) [
        | inl e ↦ let x : Some v ≡ None = sym (lookup-with_entry_same w k v) ∙ ap (lookup (with_entry w k v)) (sym e) ∙ q in cc
        | inr ne ↦ touched-write_other cs k v l ne ∙ s.not_written l (sym (lookup-with_entry_other w k v l ne) ∙ q)
      ];
  written = λ l u q.
      elim (with_entry_cases w k v l u q) [
        | inl e ↦ ap (touched (cs ++ Write k v ∷ [])) e.0 ∙ touched-write_same cs k v
        | inr e ↦ touched-write_other cs k v l e.0 ∙ s.written l u e.1
      ];
  last = λ l u q d.
      elim (with_entry_cases w k v l u q) [
        | inl e ↦ final-write cs k v l d ∙ cond-true (eqb l k) v (final cs l d) (eq-eqb l k e.0) ∙ sym e.1
        | inr e ↦ final-write cs k v l d ∙ cond-false (eqb l k) v (final cs l d) (ne_eqb l k e.0) ∙ s.last l u e.1 d
      ];
}

-- a read of an own write
pub legal_own : (w : Entries) (cs : List Call) (k v : ℕ) (m : Memory) → Sets w cs → lookup w k ≡ Some v → IsLegal m cs
    → IsLegal m (cs ++ Read k v ∷ [])
legal_own w cs k v m s h legal = IsLegal-read cs m k v legal (after-final cs m k ∙ s.last k v h (m k))

-- a read of a location that the transaction has not written
pub legal_read : (w : Entries) (cs : List Call) (k v : ℕ) (m : Memory) → Sets w cs → lookup w k ≡ None → m k ≡ v → IsLegal m cs
    → IsLegal m (cs ++ Read k v ∷ [])
legal_read w cs k v m s h e legal = IsLegal-read cs m k v legal (after-final cs m k ∙ final_untouched cs k (m k) (s.not_written k h) ∙ e)

pub Agrees-before : (m : Memory) (r : Entries) (k v : ℕ) → lookup r k ≡ None → Agrees m (with_entry r k v) → Agrees m r
Agrees-before m r k v none a l u h =
    elim (cases_eq l k) [
      | inl q ↦ let x : Some u ≡ None = sym h ∙ ap (lookup r) q ∙ none in cc
      | inr ne ↦ a l u (lookup-with_entry_other r k v l ne ∙ h)
    ]
