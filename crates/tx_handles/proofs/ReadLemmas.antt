-- What is read at the end over several gates: the entries of all collections, one collection after another, are those of the whole map.
-- Each key has its place in one of them, so a look-up in the joined list finds what the collection of that place has.
use Rattle.std.proofs.Common.{◌≡◌, ℕ, zero, suc, ◌+◌, ◌-◌, ◌<◌, ◌≤◌, ◌==◌, Bool, true}
use Rattle.std.proofs.Common.{false, cond, List, [], ◌∷◌, ◌++◌, length, Option, Some, None}
use Rattle.std.proofs.Common.{refl, sym, ap, subst, ◌∙◌, append-nil, arith, eqb-true, length-append}
use Rattle.std.specs.Prelude.{slice_get}
use Rattle.std.specs.Cmp.{nat_cmp_total}
use Rattle.std.specs.Ordering.{nat_cmp, eq_by_cmp}
use Rattle.std.specs.FinMap.{FinMap, entries, from_entries, get, get-empty, get-insert}
use Rattle.std.specs.FinMap.{len, len-entries, nat_cmp-IsAntisymmetric, retain_keys, same_map}
use Rattle.std.proofs.lemmas.Bool.Decides.{nat_tests}
use Rattle.seq_model.specs.Counts.{Multiset}
use Rattle.seq_model.specs.declared.held.Held.{Held}
use Rattle.seq_model.specs.declared.held.Held.TheVariants as held
use Rattle.tx_handles.specs.declared.gates.Gates.{Gates}
use Rattle.tx_handles.specs.Gates.{LieOver, place_of}
use Rattle.tx_handles.specs.Lanes.{AreLanes, total_of}
use Rattle.tx_handles.specs.Read.{HasAll, bag_entries, entries_from, map_entries}
use Rattle.tx_handles.proofs.GateLemmas.{kept_at, kept_get, place_within, unequal}
use Rattle.tx_handles.proofs.SumLemmas.{below, below_first, below_same, entries_make, lens_add_up}
use Rattle.tx_handles.proofs.LaneLemmas.{total_below}

-- ---- a look-up in one list after another
abbrev first_of : {X : Type 0} → Option X → Option X → Option X
first_of (Some x) o = Some x
first_of None o = o

module _ {X : Type 0} where
  first_by : (b : Bool) (x : X) (o p : Option X) → cond b (Some x) (first_of o p) ≡ first_of (cond b (Some x) o) p
  first_by true x o p = refl
  first_by false x o p = refl

  then_none : (o p : Option X) → p ≡ None → first_of o p ≡ o
  then_none (Some x) p e = refl
  then_none None p e = e

  get_joined : (xs ys : List (ℕ × X)) (q : ℕ)
      → get (from_entries {R = nat_cmp} (xs ++ ys)) q ≡ first_of (get (from_entries {R = nat_cmp} xs) q)
      (get (from_entries {R = nat_cmp} ys) q)
  get_joined [] ys q = ap (λ o. first_of o (get (from_entries {R = nat_cmp} ys) q)) (sym (get-empty {X = X} nat_cmp q))
  get_joined (x ∷ xs) ys q =
      get-insert nat_cmp_total (from_entries (xs ++ ys)) x.0 x.1 q
      ∙ ap (cond (eq_by_cmp nat_cmp q x.0) (Some x.1)) (get_joined xs ys q)
      ∙ first_by (eq_by_cmp nat_cmp q x.0) x.1 (get (from_entries {R = nat_cmp} xs) q) (get (from_entries {R = nat_cmp} ys) q)
      ∙ ap (λ o. first_of o (get (from_entries {R = nat_cmp} ys) q)) (sym (get-insert nat_cmp_total (from_entries xs) x.0 x.1 q))

-- ---- place by place
module _ {V X : Type 0} (entries_of : Option (Held V) → List (ℕ × X)) (hs : List (Held V)) (first : ℕ) where
  then_place : (place last : ℕ) → place < last
      → entries_from entries_of hs (first + place) (last - place)
      ≡ entries_of (slice_get hs (first + place)) ++ entries_from entries_of hs (first + (place + 1)) (last - (place + 1))
  then_place place last lt =
      let some : last - place ≡ suc (last - (place + 1)) = omega (arith, lt) in
      let there : first + place + 1 ≡ first + (place + 1) = omega arith in
      ap (entries_from entries_of hs (first + place)) some
      ∙ ap (λ n. entries_of (slice_get hs (first + place)) ++ entries_from entries_of hs n (last - (place + 1))) there

  no_place : (place last : ℕ) → last ≤ place → entries_from entries_of hs (first + place) (last - place) ≡ []
  no_place place last le =
      let none : last - place ≡ 0 = omega (arith, le) in
      ap (entries_from entries_of hs (first + place)) none

  -- the part that was begun had none left, and the next one is begun
  pub goes_on : (place last : ℕ) (xs ys : List (ℕ × X)) → place < last → xs ≡ [] → ys ≡ entries_of (slice_get hs (first + place))
      → ys ++ entries_from entries_of hs (first + (place + 1)) (last - (place + 1)) ≡ xs ++ entries_from entries_of hs (first + place)
      (last - place)
  goes_on place last xs ys lt none begun =
      ap (λ zs. zs ++ entries_from entries_of hs (first + (place + 1)) (last - (place + 1))) begun
      ∙ sym (then_place place last lt)
      ∙ ap (λ zs. zs ++ entries_from entries_of hs (first + place) (last - place)) (sym none)

  -- no part is left to be begun
  pub ends : (place last : ℕ) (xs : List (ℕ × X)) → last ≤ place → xs ++ entries_from entries_of hs (first + place) (last - place) ≡ xs
  ends place last xs le = ap (λ ys. xs ++ ys) (no_place place last le) ∙ append-nil xs

-- ---- all entries
pub entries_count : {X : Type 0} (m : FinMap nat_cmp X) → length (entries m) ≡ len m
entries_count m = sym (len-entries m)

module _ {V X : Type 0} (kind : FinMap nat_cmp X → Held V) (entries_of : Option (Held V) → List (ℕ × X))
    (shows : (m : FinMap nat_cmp X) → entries_of (Some (kind m)) ≡ entries m) (g : Gates) (hs : List (Held V)) (u : FinMap nat_cmp X)
    (lie : LieOver kind g u hs) where
  abbrev part : ℕ → FinMap nat_cmp X
  part i = retain_keys u (λ k. place_of g k == i)

  abbrev from : ℕ → ℕ → List (ℕ × X)
  from i n = entries_from entries_of hs (g.first + i) n

  shown : (i : ℕ) → i ≤ g.others → entries_of (slice_get hs (g.first + i)) ≡ entries (part i)
  shown i le = ap entries_of (lie i le) ∙ shows (part i)

  from_next : (i n : ℕ) → i ≤ g.others → from i (suc n) ≡ entries (part i) ++ from (i + 1) n
  from_next i n le =
      let there : g.first + i + 1 ≡ g.first + (i + 1) = omega arith in
      (λ j. shown i le j ++ entries_from entries_of hs (there j) n)

  -- how many they are
  lens : (n : ℕ) → n ≤ g.others + 1 → below (λ i. length (entries_of (slice_get hs (g.first + i)))) n ≡ below (λ i. len (part i)) n
  lens n le = below_same (λ i. length (entries_of (slice_get hs (g.first + i)))) (λ i. len (part i)) n
      (λ i lt. ap length (shown i (omega (arith, lt, le))) ∙ sym (len-entries (part i)))

  pub lens_all : below (λ i. length (entries_of (slice_get hs (g.first + i)))) (g.others + 1) ≡ len u
  lens_all = lens (g.others + 1) (omega arith)
      ∙ lens_add_up (place_of g) (g.others + 1) (λ k. let h = place_within g k in omega (arith, h)) u

  lengths : (n i : ℕ) → i + n ≤ g.others + 1 → length (from i n) ≡ below (λ j. len (part (i + j))) n
  lengths zero i le = refl
  lengths (suc n) i le =
      let next = ap length (from_next i n (omega (arith, le))) in
      let both = length-append (entries (part i)) (from (i + 1) n) in
      let one = len-entries (part i) in
      let others = lengths n (i + 1) (omega (arith, le)) in
      let same = below_same (λ j. len (part (i + 1 + j))) (λ j. len (part (i + (j + 1)))) n
      (λ j lt. let e : i + 1 + j ≡ i + (j + 1) = omega arith in ap (λ k. len (part k)) e) in
      let here : len (part (i + 0)) ≡ len (part i) = let e : i + 0 ≡ i = omega arith in ap (λ k. len (part k)) e in
      let parts : below (λ j. len (part (i + j))) (suc n) ≡ len (part (i + 0)) + below (λ j. len (part (i + (j + 1)))) n =
      below_first (λ j. len (part (i + j))) n in
      omega (arith, next, both, one, others, same, here, parts)

  -- what is at a key
  absent : (i q : ℕ) → (place_of g q ≡ i → ⊥) → get (part i) q ≡ None
  absent i q apart =
      kept_get (λ k. place_of g k == i) u q
      ∙ ap (λ b. cond b (get u q) None) (let e : (place_of g q == i) ≡ false = grind (arith, nat_tests) in e)

  get_next : (i n q : ℕ) → i ≤ g.others
      → get (from_entries {R = nat_cmp} (from i (suc n))) q ≡ first_of (get (part i) q)
      (get (from_entries {R = nat_cmp} (from (i + 1) n)) q)
  get_next i n q le =
      ap (λ es. get (from_entries {R = nat_cmp} es) q) (from_next i n le)
      ∙ get_joined (entries (part i)) (from (i + 1) n) q
      ∙ ap (λ (m : FinMap nat_cmp X). first_of (get m q) (get (from_entries {R = nat_cmp} (from (i + 1) n)) q)) (entries_make (part i))

  none_before : (n i q : ℕ) → i + n ≤ g.others + 1 → place_of g q < i → get (from_entries {R = nat_cmp} (from i n)) q ≡ None
  none_before zero i q le lt = get-empty {X = X} nat_cmp q
  none_before (suc n) i q le lt =
      get_next i n q (omega (arith, le))
      ∙ ap (λ o. first_of o (get (from_entries {R = nat_cmp} (from (i + 1) n)) q)) (absent i q (λ e. omega (arith, e, lt)))
      ∙ none_before n (i + 1) q (omega (arith, le)) (omega (arith, lt))

  got : (n i q : ℕ) → i + n ≤ g.others + 1 → i ≤ place_of g q → place_of g q < i + n
      → get (from_entries {R = nat_cmp} (from i n)) q ≡ get u q
  got zero i q le lower upper = absurd (omega (arith, lower, upper))
  got (suc n) i q le lower upper =
      get_next i n q (omega (arith, le))
      ∙ at (place_of g q == i) refl (λ above. got n (i + 1) q (omega (arith, le)) above (omega (arith, upper)))
    where
      rest : Option X
      rest = get (from_entries {R = nat_cmp} (from (i + 1) n)) q

      at : (b : Bool) → (place_of g q == i) ≡ b → (i + 1 ≤ place_of g q → rest ≡ get u q) → first_of (get (part i) q) rest ≡ get u q
      at true is others =
          let e = eqb-true (place_of g q) i is in
          then_none (get (part i) q) rest (none_before n (i + 1) q (omega (arith, le)) (omega (arith, e)))
          ∙ kept_at (λ k. place_of g k == i) u q is
      at false other others =
          let apart = unequal (place_of g q) i other in
          ap (λ o. first_of o rest) (absent i q (λ e. apart (sym e))) ∙ others (omega (arith, apart, lower))

  pub all_read : HasAll (from 0 (g.others + 1)) u
  all_read = record {
    same = same_map nat_cmp_total nat_cmp-IsAntisymmetric _ _ (λ q.
        got (g.others + 1) 0 q (omega arith) (omega arith) (let h = place_within g q in omega (arith, h)));
    once = lengths (g.others + 1) 0 (omega arith)
        ∙ below_same (λ j. len (part (0 + j))) (λ j. len (part j)) (g.others + 1)
        (λ j lt. let e : 0 + j ≡ j = omega arith in ap (λ k. len (part k)) e)
        ∙ lens_add_up (place_of g) (g.others + 1) (λ k. let h = place_within g k in omega (arith, h)) u;
  }

-- ---- of a map, a multiset, and lanes
module _ {V : Type 0} where
  -- the items of a queue
  abbrev pub items_of : Option (Held V) → List ℕ
  items_of (Some (held.Map m)) = []
  items_of (Some (held.Bag m)) = []
  items_of (Some (held.Pq m)) = []
  items_of (Some (held.Queue head items)) = items
  items_of None = []

module _ {V : Type 0} (g : Gates) (hs : List (Held V)) where
  from_first : {X : Type 0} (entries_of : Option (Held V) → List (ℕ × X)) (u : FinMap nat_cmp X)
      → HasAll (entries_from entries_of hs (g.first + 0) (g.others + 1)) u
      → HasAll (entries_from entries_of hs (g.first + 0) (g.others + 1 - 0)) u
  from_first entries_of u all =
      let e : g.others + 1 ≡ g.others + 1 - 0 = omega arith in
      subst (λ n. HasAll (entries_from entries_of hs (g.first + 0) n) u) e all

  pub map_read : (u : FinMap nat_cmp V) → LieOver held.Map g u hs → HasAll (entries_from map_entries hs (g.first + 0) (g.others + 1 - 0)) u
  map_read u lie = from_first map_entries u (all_read held.Map map_entries (λ m. refl) g hs u lie)

  pub bag_read : (u : Multiset) → LieOver held.Bag g u hs → HasAll (entries_from bag_entries hs (g.first + 0) (g.others + 1 - 0)) u
  bag_read u lie = from_first bag_entries u (all_read held.Bag bag_entries (λ m. refl) g hs u lie)

  pub keys_read : (u : FinMap nat_cmp V) → LieOver held.Map g u hs
      → below (λ i. length (map_entries (slice_get hs (g.first + i)))) (g.others + 1) ≡ len u
  keys_read u lie = lens_all held.Map map_entries (λ m. refl) g hs u lie

  pub items_read : (lanes : ℕ → List ℕ) → AreLanes g lanes hs
      → below (λ i. length (items_of (slice_get hs (g.first + i)))) (g.others + 1) ≡ total_of lanes (g.others + 1)
  items_read lanes are =
      below_same (λ i. length (items_of (slice_get hs (g.first + i)))) (λ i. length (lanes i)) (g.others + 1)
      (λ i lt. ap (λ o. length (items_of o)) (are i (omega (arith, lt))).1)
      ∙ sym (total_below lanes (g.others + 1))

  pub lane_read : (lanes : ℕ → List ℕ) → AreLanes g lanes hs → (i head : ℕ) (items : List ℕ) → i ≤ g.others
      → slice_get hs (g.first + i) ≡ Some (held.Queue head items) → Some items ≡ Some (lanes i)
  lane_read lanes are i head items le at =
      let both : Some (held.Queue head items) ≡ Some (held.Queue (are i le).0 (lanes i)) = sym at ∙ (are i le).1 in cc
