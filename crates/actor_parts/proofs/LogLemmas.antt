-- The log of a copy is that of its transaction's calls on the collection. Each location in it is in the collection, by the frame laws, so
-- in each base of its block; and the edition that such a base has there is not above the clock.
use Rattle.std.proofs.Common.{◌≡◌, ◌≢◌, ℕ, zero, suc, ◌+◌, ◌-◌, ◌<◌, ◌≤◌, ◌++◌, ◌==◌, cond, if◌then◌else◌, Bool, true, false, eqb, eqb-true}
use Rattle.std.proofs.Common.{get_or, length, List, [], ◌∷◌, Option, Some, None, take, drop, ⊎_elim, refl, sym, ap, subst, ◌∙◌, arith}
use Rattle.std.specs.Prelude.{All, Contains, slice_get, slice_index}
use Rattle.std.proofs.lemmas.Bool.{cond-false}
use Rattle.std.proofs.lemmas.Option.{slice_get_read}
use Rattle.std.proofs.lemmas.List.Elements.{Contains-append_cases}
use Rattle.conflict.specs.declared.change.Change.{Change}
use Rattle.conflict.specs.declared.outcome.Outcome.{Outcome}
use Rattle.seq_model.specs.declared.held.Held.{Held}
use Rattle.seq_model.specs.declared.event.Event.{Event}
use Rattle.replay_log.specs.declared.base.Base.{Base}
use Rattle.replay_log.specs.Base.{Shown, editions_of, locations_of, shown_of, stripes_of}
use Rattle.replay_log.specs.Collections.{Suit}
use Rattle.replay_log.specs.Contents.{CallWithOutcome, Block, HaveStripes, block_of, first_of, size}
use Rattle.replay_log.specs.Worlds.{World, opened, run}
use Rattle.replay_log.proofs.ContentLemmas.{home_is, not_plain, positive_at}
use Rattle.replay_log.proofs.SerialLemmas.{editions_past}
use Rattle.actor_laws.specs.Bases.{IsBaseOf, ShowsBase, log_locations, writes_on}
use Rattle.actor_parts.specs.declared.copies.PrivateCopy.{PrivateCopy}
use Rattle.actor_parts.specs.declared.copies.PrivateCopy.TheVariants.{Keys, Whole}
use Rattle.actor_parts.specs.declared.copies.CopyOfCollection.{CopyOfCollection}
use Rattle.actor_parts.specs.PrivateCopy.{IsOf, changes_in, locations_in}
use Rattle.actor_parts.specs.Footprints.{IsPositionOf}
use Rattle.actor_parts.specs.CopyList.{copy_of}
use Rattle.actor_parts.proofs.FootprintLemmas.{all_of, sized, writes_within}
use Rattle.actor_parts.proofs.CopyListLemmas.{first_at}

apart : (j k x : ℕ) → j ≢ k → x ≡ k → eqb j x ≡ false
apart j k x other same = go (eqb j x) refl
  where
    go : (b : Bool) → eqb j x ≡ b → eqb j x ≡ false
    go true e = absurd (other (eqb-true j x e ∙ same))
    go false e = e

module _ {V : Type 0} where
  pub log_is : (b : Block) (s : Shown V) (changes : List (Change V)) (locations : List ℕ) (c : PrivateCopy V) → IsOf b s changes locations c
      → (changes_in c ≡ changes) × (locations_in c ≡ locations)
  log_is b s changes locations (Keys m es) is = (is.2, is.3)
  log_is b s changes locations (Whole t) is = (is.2, is.3)

  -- each location is in the collection
  pub log_below : (k : ℕ) (b : Block) (os : List (CallWithOutcome V)) → 0 < b.stripes → (i : ℕ) → Contains (log_locations k b os) i
      → i < size b
  log_below k b [] pos i (j, lt, e) = absurd (omega (arith, lt))
  log_below k b (o ∷ os) pos i h =
      ⊎_elim
      (λ (m : Contains (if o.asked.collection == k then writes_on b o.outcome else []) i). here (o.asked.collection == k) o.outcome m)
      (λ (m : Contains (log_locations k b os) i). log_below k b os pos i m)
      (Contains-append_cases (if o.asked.collection == k then writes_on b o.outcome else []) (log_locations k b os) i h)
    where
      here : (t : Bool) (x : Option (Outcome V)) → Contains (if t then writes_on b x else []) i → i < size b
      here true (Some x) m = writes_within b x pos i m
      here true None (j, lt, e) = absurd (omega (arith, lt))
      here false x (j, lt, e) = absurd (omega (arith, lt))

  -- as many locations as the block has
  wide : (b : Block) (base : Base V) → IsBaseOf b base → size b ≡ locations_of (stripes_of base) (shown_of base)
  wide b base is =
      (λ j. size (record { kind = sym is.kind j; stripes = sym is.stripes j })) ∙ sized (stripes_of base) (shown_of base)

  pub log_within : (k : ℕ) (b : Block) (os : List (CallWithOutcome V)) (base : Base V) → 0 < b.stripes → IsBaseOf b base
      → All (λ i. i < locations_of (stripes_of base) (shown_of base)) (log_locations k b os)
  log_within k b os base pos is =
      all_of (λ i. i < locations_of (stripes_of base) (shown_of base)) (log_locations k b os) (λ i h.
      subst (λ (m : ℕ). i < m) (wide b base is) (log_below k b os pos i h))

  pub log_editions : (blocks : List Block) (clock : ℕ) (values : List ℕ) (held : List (Held V)) (events : List (Event V)) (k : ℕ)
      (b : Block) (os : List (CallWithOutcome V)) (base : Base V)
      → HaveStripes blocks → Suit blocks held → block_of blocks k ≡ Some b →
      let w : World V = run (opened blocks clock values held) events in
      ShowsBase (length values) blocks w k base
      → All (λ i. slice_index (editions_of base) i ≤ w.boosted.words.clock) (log_locations k b os)
  log_editions blocks clock values held events k b os base stripes suit here shows =
      let w : World V = run (opened blocks clock values held) events in
      let n = length values in
      let f = first_of n blocks k in
      all_of (λ i. slice_index (editions_of base) i ≤ w.boosted.words.clock) (log_locations k b os) (λ i h.
      let lt = log_below k b os (positive_at blocks k b stripes here) i h in
      let plain = not_plain n blocks k i b here lt in
      let back : f + i - f ≡ i = omega arith in
      let z = shows (f + i) plain (home_is n blocks k i b here lt) in
      let few : w.boosted.editions (f + i) ≤ w.boosted.words.clock = editions_past blocks stripes clock values held suit events (f + i)
      plain in
      let same : w.boosted.editions (f + i) ≡ slice_index (editions_of base) i =
      z.1 ∙ ap (λ (j : ℕ). slice_index (editions_of base) j) back in
      subst (λ (e : ℕ). e ≤ w.boosted.words.clock) same few)

  -- ---- one copy is taken off
  pub others_stand : (cs : List (CopyOfCollection V)) (i k : ℕ) (c : CopyOfCollection V) → slice_get cs i ≡ Some c → c.collection ≡ k
      → (j : ℕ) → j ≢ k → copy_of (take i cs ++ drop (i + 1) cs) j ≡ copy_of cs j
  others_stand [] i k c at same j other = let h : ⊥ = cc in absurd h
  others_stand (d ∷ cs) zero k c at same j other =
      let e : d ≡ c = cc in
      sym (cond-false (eqb j d.collection) (Some d.copied) (copy_of cs j)
      (apart j k d.collection other (ap (λ (z : CopyOfCollection V). z.collection) e ∙ same)))
  others_stand (d ∷ cs) (suc i) k c at same j other =
      let more : suc i + 1 ≡ suc (i + 1) = omega arith in
      ap (λ (n : ℕ). copy_of (take (suc i) (d ∷ cs) ++ drop n (d ∷ cs)) j) more
      ∙ ap (λ (x : Option (PrivateCopy V)). cond (eqb j d.collection) (Some d.copied) x) (others_stand cs i k c at same j other)

  -- what stands at its place
  pub found_at : (cs : List (CopyOfCollection V)) (i k : ℕ) (c : CopyOfCollection V) (p : Option ℕ) → p ≡ Some i → IsPositionOf cs k p
      → c ≡ get_or cs i c
      → (slice_get cs i ≡ Some c) × (c.collection ≡ k) × (copy_of cs k ≡ Some c.copied)
  found_at cs i k c p is at e =
      let h : IsPositionOf cs k (Some i) = subst (IsPositionOf cs k) is at in
      let got : slice_get cs i ≡ Some c = slice_get_read cs (length cs) i c refl h.0 e in
      let same : c.collection ≡ k = h.2 c got in
      (got, same, first_at cs i k c got (sym same) h.1)
