-- The collection whose gate an actor's next step is on: it is among those that its stage names.
use Rattle.std.proofs.Common.{◌≡◌, ℕ, suc, ◌<◌, ◌-◌, List, [], ◌∷◌, drop, drop-cons, get_or, length, length-drop, refl, sym, ap, ◌∙◌, subst}
use Rattle.std.proofs.Common.{arith}
use Rattle.std.specs.List.{All}
use Rattle.std.specs.Prelude.{Contains}
use Rattle.std.proofs.lemmas.List.Elements.{All-contains}
use Rattle.tx_sets.specs.Entries.{Entries}
use Rattle.actor_parts.specs.Dispatch.{first, next_home, next_load, next_of, next_put, next_try}
use Rattle.actor_parts.specs.declared.next.Next.TheVariants as next
use Rattle.tx_actor.specs.ActorBounds.{NamesAmong}
use Rattle.tx_actor.specs.Running.{stage_of}
use Rattle.tx_actor.specs.declared.actor.Stage as own
use Rattle.tx_actor.specs.declared.actor.Stage.TheVariants as stage
use Rattle.tx_actor.proofs.CopyLemmas.{copying_is}
use Rattle.tx_actor.proofs.HomeLemmas.{homing_is}

-- the collection whose gate is tried, or put back, next
first_named : (xs ys : List ℕ) (i j n : ℕ) (js : List ℕ) → drop i xs ≡ ys → ys ≡ j ∷ js → All (λ k. k < n) xs → j < n
first_named xs ys i j n js e f all =
    let len : length xs - i ≡ suc (length js) = sym (length-drop i xs) ∙ ap length (e ∙ f) in
    let inn : i < length xs = omega (arith, len) in
    let is : get_or xs i 0 ∷ drop (suc i) xs ≡ j ∷ js = sym (drop-cons xs i 0 inn) ∙ (e ∙ f) in
    let at : get_or xs i 0 ≡ j = cc in
    subst (λ (k : ℕ). k < n) at (all i 0 inn)

tried_next : (xs ys : List ℕ) (i k n : ℕ) → drop i xs ≡ ys → next_try (first ys) ≡ next.TryGate k → All (λ j. j < n) xs → k < n
tried_next xs [] i k n e t all = let z : ⊥ = cc in absurd z
tried_next xs (j ∷ js) i k n e t all = (let q : j ≡ k = cc in subst (λ (m : ℕ). m < n) q (first_named xs (j ∷ js) i j n js e refl all))

put_next : (xs : List ℕ) (k n : ℕ) → next_put (first xs) ≡ next.PutGate k → All (λ j. j < n) xs → k < n
put_next [] k n t all = let z : ⊥ = cc in absurd z
put_next (j ∷ js) k n t all = (let q : j ≡ k = cc in subst (λ (m : ℕ). m < n) q (all 0 0 (omega arith)))

module _ {V : Type 0} where
  pub named_try : (t : own.Stage V) (k n : ℕ) → next_of (stage_of t) ≡ next.TryGate k → NamesAmong n t → k < n
  named_try (stage.Trying asked tries) k n e h = (let q : asked.collection ≡ k = cc in subst (λ (m : ℕ). m < n) q h)
  named_try (stage.Gating homes got tries) k n e h = tried_next homes.items (drop got homes.items) got k n refl e h
  named_try stage.Idle k n e h = let z : ⊥ = cc in absurd z
  named_try stage.Beginning k n e h = let z : ⊥ = cc in absurd z
  named_try stage.Open k n e h = let z : ⊥ = cc in absurd z
  named_try stage.Releasing k n e h = let z : ⊥ = cc in absurd z
  named_try stage.Closing k n e h = let z : ⊥ = cc in absurd z
  named_try stage.Cancelling k n e h = let z : ⊥ = cc in absurd z
  named_try stage.Leaving k n e h = let z : ⊥ = cc in absurd z
  named_try (stage.Reading l) k n e h = let z : ⊥ = cc in absurd z
  named_try (stage.Copying asked) k n e h = let z : ⊥ = cc in absurd z
  named_try (stage.Loading o left) k n e h = absurd (load_tries left.items k e)
    where
      load_tries : (es : Entries) (k : ℕ) → next_load es ≡ next.TryGate k → ⊥
      load_tries [] k e = cc
      load_tries (d ∷ es) k e = cc
  named_try (stage.Locking homes) k n e h = let z : ⊥ = cc in absurd z
  named_try (stage.Ready homes) k n e h = let z : ⊥ = cc in absurd z
  named_try (stage.Storing homes) k n e h = let z : ⊥ = cc in absurd z
  named_try (stage.Homing homes) k n e h = absurd (home_tries homes.items k e)
    where
      home_tries : (xs : List ℕ) (k : ℕ) → next_home (first xs) ≡ next.TryGate k → ⊥
      home_tries [] k e = cc
      home_tries (j ∷ js) k e = cc
  named_try (stage.Returning homes) k n e h = absurd (put_tries homes.items k e)
    where
      put_tries : (xs : List ℕ) (k : ℕ) → next_put (first xs) ≡ next.TryGate k → ⊥
      put_tries [] k e = cc
      put_tries (j ∷ js) k e = cc
  named_try (stage.ReturningOne j) k n e h = let z : ⊥ = cc in absurd z

  pub named_put : (t : own.Stage V) (k n : ℕ) → next_of (stage_of t) ≡ next.PutGate k → NamesAmong n t → k < n
  named_put (stage.Returning homes) k n e h = put_next homes.items k n e h
  named_put (stage.ReturningOne j) k n e h = (let q : j ≡ k = cc in subst (λ (m : ℕ). m < n) q h)
  named_put (stage.Trying asked tries) k n e h = let z : ⊥ = cc in absurd z
  named_put (stage.Gating homes got tries) k n e h = absurd (try_puts (drop got homes.items) k e)
    where
      try_puts : (xs : List ℕ) (k : ℕ) → next_try (first xs) ≡ next.PutGate k → ⊥
      try_puts [] k e = cc
      try_puts (j ∷ js) k e = cc
  named_put stage.Idle k n e h = let z : ⊥ = cc in absurd z
  named_put stage.Beginning k n e h = let z : ⊥ = cc in absurd z
  named_put stage.Open k n e h = let z : ⊥ = cc in absurd z
  named_put stage.Releasing k n e h = let z : ⊥ = cc in absurd z
  named_put stage.Closing k n e h = let z : ⊥ = cc in absurd z
  named_put stage.Cancelling k n e h = let z : ⊥ = cc in absurd z
  named_put stage.Leaving k n e h = let z : ⊥ = cc in absurd z
  named_put (stage.Reading l) k n e h = let z : ⊥ = cc in absurd z
  named_put (stage.Copying asked) k n e h = let z : ⊥ = cc in absurd z
  named_put (stage.Loading o left) k n e h = absurd (load_puts left.items k e)
    where
      load_puts : (es : Entries) (k : ℕ) → next_load es ≡ next.PutGate k → ⊥
      load_puts [] k e = cc
      load_puts (d ∷ es) k e = cc
  named_put (stage.Locking homes) k n e h = let z : ⊥ = cc in absurd z
  named_put (stage.Ready homes) k n e h = let z : ⊥ = cc in absurd z
  named_put (stage.Storing homes) k n e h = let z : ⊥ = cc in absurd z
  named_put (stage.Homing homes) k n e h = absurd (home_puts homes.items k e)
    where
      home_puts : (xs : List ℕ) (k : ℕ) → next_home (first xs) ≡ next.PutGate k → ⊥
      home_puts [] k e = cc
      home_puts (j ∷ js) k e = cc

  pub named_home : (t : own.Stage V) (k n : ℕ) → next_of (stage_of t) ≡ next.GoHome k → NamesAmong n t → k < n
  named_home t k n due h =
      let at = homing_is t k due in
      All-contains (λ j. j < n) at.0.items k (subst (λ (p : own.Stage V). NamesAmong n p) at.1 h)
      (subst (λ (ks : List ℕ). Contains ks k) (sym at.3) (0, omega arith, refl))

  -- its collection is among the first n
  pub named_copy : (t : own.Stage V) (k n : ℕ) → next_of (stage_of t) ≡ next.Copy k → NamesAmong n t → k < n
  named_copy t k n e names =
      let c = copying_is t k e in
      subst (λ (j : ℕ). j < n) c.2 (subst (NamesAmong n) c.1 names)
