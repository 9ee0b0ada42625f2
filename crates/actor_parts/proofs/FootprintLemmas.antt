-- What a call reads and writes is in its collection: by the frame laws of its kind (`read_at`, `written_at`), at each state of it.
use Rattle.std.proofs.Common.{◌≡◌, ℕ, zero, suc, ◌+◌, ◌<◌, ◌≤◌, ◌^◌, List, Some, refl, sym, subst, arith}
use Rattle.std.specs.Prelude.{All, Contains, slice_index_or}
use Rattle.std.proofs.lemmas.List.FromFn.{get_or-range_with_len, length-range_with_len}
use Rattle.std.proofs.lemmas.List.Elements.{All-contains_itself}
use Rattle.std.specs.FinMap.{empty}
use Rattle.conflict.specs.Footprints.{all_below}
use Rattle.conflict.specs.declared.outcome.Outcome.{Outcome}
use Rattle.replay_log.specs.declared.base.Base.{Base}
use Rattle.replay_log.specs.Base.{Shown, OfMap, OfBag, OfPq, OfQueue, locations_of, reads_of, shown_of, stripes_of, writes_of}
use Rattle.replay_log.specs.Parts.{Kind, MapKind, BagKind, PqKind, QueueKind, kind_of, whole}
use Rattle.replay_log.specs.Contents.{Block, blank, size}
use Rattle.replay_log.proofs.ContentLemmas.{read_at, shifted_in, written_at}
use Rattle.actor_laws.proofs.Bases.{writes_by}
use Rattle.actor_parts.specs.declared.copies.PrivateCopy.{PrivateCopy}
use Rattle.actor_parts.specs.Footprints.{base_in, location_count, reads_in, writes_in}
use Rattle.actor_parts.specs.Sizes.{LieIn, base_reads, base_writes}

-- each element of a list has what all of them have
pub all_of : (P : ℕ → Type 0) (ls : List ℕ) → ((i : ℕ) → Contains ls i → P i) → All P ls
all_of P ls each k d lt = each (slice_index_or ls k d) (All-contains_itself ls k d lt)

pub all_alike : (P : ℕ → Type 0) (ls ms : List ℕ) → ls ≡ ms → All P ls → All P ms
all_alike P ls ms e all = subst (All P) e all

-- where all below n are below p, n is not above it
pub all_within : (n p : ℕ) → All (λ l. l < p) (all_below n) → n ≤ p
all_within zero p all = omega arith
all_within (suc n) p all =
    let long = length-range_with_len 0 (suc n) in
    let here : slice_index_or (all_below (suc n)) n 0 < p = all n 0 (omega (arith, long)) in
    let is : slice_index_or (all_below (suc n)) n 0 ≡ 0 + n = get_or-range_with_len 0 (suc n) n 0 (omega arith) in
    omega (arith, here, is)

module _ {V : Type 0} where
  pub reads_by : (k : Kind) (n : ℕ) (o : Outcome V) (s : Shown V) → kind_of s ≡ k → reads_of n o (whole n k (λ i. OfMap empty))
      ≡ reads_of n o s
  reads_by MapKind n o (OfMap m) e = refl
  reads_by BagKind n o (OfBag m) e = refl
  reads_by PqKind n o (OfPq m) e = refl
  reads_by QueueKind n o (OfQueue m) e = refl
  reads_by k n o s e = absurd (let z : ⊥ = cc in z)

  pub reads_within : (b : Block) (o : Outcome V) → 0 < b.stripes → (i : ℕ) → Contains (reads_of b.stripes o (blank b)) i → i < size b
  reads_within b o pos i h =
      let z = read_at (Some b) 0 (Some o) (0 + i) (λ c e. subst (λ (d : Block). 0 < d.stripes) (let s : b ≡ c = cc in s) pos)
      (shifted_in 0 i (reads_of b.stripes o (blank b)) h) in
      let same : 0 + i ≡ 0 + z.1 = z.3 in
      let block : b ≡ z.0 = (let e : Some b ≡ Some z.0 = z.2 in cc) in
      let lt : z.1 < size z.0 = z.4 in
      let lt2 : z.1 < size b = subst (λ (d : Block). z.1 < size d) (sym block) lt in
      omega (arith, same, lt2)

  pub writes_within : (b : Block) (o : Outcome V) → 0 < b.stripes → (i : ℕ) → Contains (writes_of b.stripes o (blank b)) i → i < size b
  writes_within b o pos i h =
      let z = written_at b 0 o (0 + i) pos (shifted_in 0 i (writes_of b.stripes o (blank b)) h) in
      let same : 0 + i ≡ 0 + z.0 = z.1 in
      let lt : z.0 < size b = z.2 in
      omega (arith, same, lt)

  pub sized : (n : ℕ) (s : Shown V) → size (record { kind = kind_of s; stripes = n }) ≡ locations_of n s
  sized n (OfMap m) = refl
  sized n (OfBag m) = refl
  sized n (OfPq m) = refl
  sized n (OfQueue m) = refl

  pub base_reads_below : (base : Base V) (o : Outcome V) → 0 < stripes_of base → LieIn base (base_reads base o)
  base_reads_below base o pos =
      let n = stripes_of base in
      let s = shown_of base in
      let b : Block = record { kind = kind_of s; stripes = n } in
      all_of (λ l. l < locations_of n s) (base_reads base o) (λ i h.
      subst (λ (m : ℕ). i < m) (sized n s)
      (reads_within b o pos i (subst (λ (ls : List ℕ). Contains ls i) (sym (reads_by (kind_of s) n o s refl)) h)))

  pub base_writes_below : (base : Base V) (o : Outcome V) → 0 < stripes_of base → LieIn base (base_writes base o)
  base_writes_below base o pos =
      let n = stripes_of base in
      let s = shown_of base in
      let b : Block = record { kind = kind_of s; stripes = n } in
      all_of (λ l. l < locations_of n s) (base_writes base o) (λ i h.
      subst (λ (m : ℕ). i < m) (sized n s)
      (writes_within b o pos i (subst (λ (ls : List ℕ). Contains ls i) (sym (writes_by (kind_of s) n o s refl)) h)))

  pub reads_below : (c : PrivateCopy V) (o : Outcome V) → 0 < stripes_of (base_in c) → All (λ l. l < location_count c) (reads_in c o)
  reads_below c o pos = base_reads_below (base_in c) o pos

  pub writes_below : (c : PrivateCopy V) (o : Outcome V) → 0 < stripes_of (base_in c) → All (λ l. l < location_count c) (writes_in c o)
  writes_below c o pos = base_writes_below (base_in c) o pos

  -- they are numbers of locations, where the collection begins at f
  pub base_range : (base : Base V) (f : ℕ) (ls : List ℕ) → f + locations_of (stripes_of base) (shown_of base) ≤ 2 ^ 32 → LieIn base ls
      → All (λ l. f + l < 2 ^ 32) ls
  base_range base f ls le all k d lt =
      let here : slice_index_or ls k d < locations_of (stripes_of base) (shown_of base) = all k d lt in
      omega (arith, here, le)

  pub in_range : (c : PrivateCopy V) (f : ℕ) (ls : List ℕ) → f + location_count c ≤ 2 ^ 32 → All (λ l. l < location_count c) ls
      → All (λ l. f + l < 2 ^ 32) ls
  in_range c f ls le all = base_range (base_in c) f ls le all
