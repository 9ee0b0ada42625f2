-- What a transaction has read, by one call more. It keeps a read set of it, but for a declared reader, where the proof alone knows.
use Rattle.std.proofs.Common.{◌≡◌, ℕ, Option, Some, None, List, [], ◌∷◌, ◌++◌, inl, inr, refl, sym, ap, ◌∙◌, subst, arith}
use Rattle.std.specs.Prelude.{unwrap_or}
use Rattle.tx_sets.specs.Entries.{Entries, lookup, with_entry}
use Rattle.tx_machine.specs.Actor.{Call, Read, Write}
use Rattle.tx_machine.specs.World.{Memory, World}
use Rattle.tx_machine.specs.Opacity.{IsLegal, first_read}
use Rattle.tx_machine.proofs.Sets.{with_entry_cases, lookup-with_entry_same}
use Rattle.tx_machine.proofs.Calls.{Sets, Agrees, Agrees-before, first_read_is, legal_own, legal_read, IsLegal-write}
use Rattle.tx_machine.proofs.Invariant.{Good, Saw}

-- what is good at a number is one value
good_same : (s : World) (n l u v : ℕ) → Good s n l u → Good s n l v → u ≡ v
good_same s n l u v g h = sym g.value ∙ h.value

pub legal_none : (m : Memory) → IsLegal m []
unfolding IsLegal
legal_none m = tt

pub found_none : (l v : ℕ) → lookup [] l ≡ Some v → ⊥
unfolding lookup
found_none l v h = let x : Some v ≡ None = sym h in cc

-- no calls
abbrev pub Saw-none : (s : World) (n : ℕ) → Saw s n []
Saw-none s n = record { reads = []; legal = λ m a. legal_none m; good = λ l v h. absurd (found_none l v h) }

abbrev pub Saw-own : (s : World) (n : ℕ) (w : Entries) (cs : List Call) (k v : ℕ) → Sets w cs → lookup w k ≡ Some v → Saw s n cs
    → Saw s n (cs ++ Read k v ∷ [])
Saw-own s n w cs k v sets h g = record { reads = g.reads; legal = λ m a. legal_own w cs k v m sets h (g.legal m a); good = g.good }

abbrev pub Saw-write : (s : World) (n : ℕ) (cs : List Call) (k v : ℕ) → Saw s n cs → Saw s n (cs ++ Write k v ∷ [])
Saw-write s n cs k v g = record { reads = g.reads; legal = λ m a. IsLegal-write cs m k v (g.legal m a); good = g.good }

-- a location that was read before
abbrev pub Saw-again : (s : World) (n : ℕ) (w : Entries) (cs : List Call) (k v : ℕ) (g : Saw s n cs) → Sets w cs → lookup w k ≡ None
    → lookup g.reads k ≡ Some v → Saw s n (cs ++ Read k v ∷ [])
Saw-again s n w cs k v g sets h is = record {
  reads = g.reads;
  legal = λ m a. legal_read w cs k v m sets h (a k v is)
      (g.legal m a);
  good = g.good;
}

-- one that was not
abbrev pub Saw-new : (s : World) (n : ℕ) (w : Entries) (cs : List Call) (k v : ℕ) (g : Saw s n cs) → Sets w cs → lookup w k ≡ None
    → lookup g.reads k ≡ None → Good s n k v → Saw s n (cs ++ Read k v ∷ [])
Saw-new s n w cs k v g sets h none good = record {
  reads = with_entry g.reads k v;
  legal = λ m a. legal_read w cs k v m sets h (a k v (lookup-with_entry_same g.reads k v)) (g.legal m (Agrees-before m g.reads k v none a));
  good = λ i z q. elim (with_entry_cases g.reads k v i z q) [
    | inl e ↦ subst (λ (j : ℕ). Good s n j z) (sym e.0) (subst (λ (j : ℕ). Good s n k j) (sym e.1) good)
    | inr e ↦ g.good i z e.1
  ];
}

-- either, where what was loaded is good: then it is what was read before
pub Saw-read : (s : World) (n : ℕ) (w : Entries) (cs : List Call) (k v : ℕ) → Saw s n cs → Sets w cs → lookup w k ≡ None → Good s n k v
    → Saw s n (cs ++ Read k v ∷ [])
Saw-read s n w cs k v g sets h good = go (lookup g.reads k) refl
  where
    go : (o : Option ℕ) → lookup g.reads k ≡ o → Saw s n (cs ++ Read k v ∷ [])
    go None e = Saw-new s n w cs k v g sets h e good
    go (Some u) e = Saw-again s n w cs k v g sets h (e ∙ ap Some (good_same s n k u v (g.good k u e) good))

-- A memory that holds what was read, and d elsewhere.
abbrev pub holds : Entries → ℕ → Memory
holds reads d l = unwrap_or (lookup reads l) d

holds_agrees : (reads : Entries) (d : ℕ) → Agrees (holds reads d) reads
holds_agrees reads d l v h = ap (λ (o : Option ℕ). unwrap_or o d) h

-- What a transaction read of a location that it had not written, it has seen, whether it keeps a read set or not: its calls are legal at
-- every memory that agrees with what it has seen, and if it had not seen the location, that would hold of two memories that differ there.
pub first_read_seen : (s : World) (n : ℕ) (cs : List Call) (l v : ℕ) (g : Saw s n cs) → first_read cs l ≡ Some v → lookup g.reads l ≡ Some v
first_read_seen s n cs l v g e = go (lookup g.reads l) refl
  where
    at : (d : ℕ) → unwrap_or (lookup g.reads l) d ≡ v
    at d = first_read_is cs (holds g.reads d) l v (g.legal (holds g.reads d) (holds_agrees g.reads d)) e

    go : (o : Option ℕ) → lookup g.reads l ≡ o → lookup g.reads l ≡ Some v
    go (Some u) h = h ∙ ap Some (ap (λ (o : Option ℕ). unwrap_or o 0) (sym h) ∙ at 0)
    go None h =
        let zero_is : 0 ≡ v = ap (λ (o : Option ℕ). unwrap_or o 0) (sym h) ∙ at 0 in
        let one_is : 1 ≡ v = ap (λ (o : Option ℕ). unwrap_or o 1) (sym h) ∙ at 1 in
        absurd (omega (arith, zero_is, one_is))

pub first_read_good : (s : World) (n : ℕ) (cs : List Call) (l v : ℕ) → Saw s n cs → first_read cs l ≡ Some v → Good s n l v
first_read_good s n cs l v g e = g.good l v (first_read_seen s n cs l v g e)
