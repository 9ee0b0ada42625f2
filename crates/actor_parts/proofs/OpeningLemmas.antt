-- The opening of a table: it has what the definitions' opening has.
--
-- The locations are counted along the numbers of stripes and the collections together: what has been counted, with what is left, is the end
-- of all blocks. The bases are opened one after another, and each is the one of its collection. A location is in the collection that its
-- home names, and shows that part of it; its word opens as 0, and so does the edition of each base.
use Rattle.std.proofs.Common.{◌≡◌, ℕ, zero, suc, ◌+◌, ◌-◌, ◌<◌, ◌≤◌, ltb, List, [], ◌∷◌, ◌++◌, Some, length, drop, take}
use Rattle.std.proofs.Common.{get_or, replicate, inl, inr, refl, sym, ap, ◌∙◌, subst, arith, lt-ltb, le-ltb, length-append}
use Rattle.std.specs.Prelude.{All, ◌↔◌, slice_get}
use Rattle.std.proofs.Math.ListN.{drop_of_length-le, get_or-append, get_or-eq_default}
use Rattle.std.proofs.Math.Seq.{get_or-append_right}
use Rattle.std.proofs.lemmas.Bool.{cases_lt, cond-true, cond-false}
use Rattle.std.proofs.lemmas.List.{get_or-replicate, length-replicate, take_all}
use Rattle.std.proofs.lemmas.List.Elements.{All-head, All-tail}
use Rattle.vlock_word.specs.LockWord.{unbits}
use Rattle.seq_model.specs.declared.held.Held.{Held}
use Rattle.seq_model.specs.declared.held.Held.TheVariants.{Map, Bag, Pq, Queue}
use Rattle.seq_model.specs.Calls.{IsWithinLimits}
use Rattle.seq_model.specs.Contents.{Contents}
use Rattle.conflict.specs.Refusals.{IsStripeCountOf}
use Rattle.replay_log.specs.declared.base.Base.{Base}
use Rattle.replay_log.specs.Base.{Shown, locations_of, shown_of, view_of}
use Rattle.replay_log.specs.Collections.{Suit, kind_of_held, shown_from, viewed}
use Rattle.replay_log.specs.Contents.{Block, HaveStripes, block_of, end_of, first_of, home_of, size, size_by}
use Rattle.replay_log.specs.Parts.{kind_of, part}
use Rattle.replay_log.proofs.CollectionLemmas.{behind, kind_viewed}
use Rattle.replay_log.proofs.ContentLemmas.{end_above}
use Rattle.actor_parts.specs.declared.blocks.TheConstants.{TABLE_LIMIT}
use Rattle.actor_laws.specs.Bases.{IsBaseOf}
use Rattle.actor_parts.specs.Openings.{AreOpened, AreStripeCounts, HasShape, IsOpened, blocks_of, world_of}
use Rattle.actor_parts.specs.Tables.{HasTable, holder}
use Rattle.actor_parts.specs.declared.table.Table.{Table}
use Rattle.actor_laws.proofs.Bases.{in_range}

module _ {V : Type 0} where
  -- the locations after one more collection
  pub next_end : (e i : ℕ) (ns : List ℕ) (hs : List (Held V)) (h : Held V) → i < length ns → i < length hs → get_or hs i h ≡ h
      → end_of (e + size_by (kind_of_held h) (get_or ns i 0)) (blocks_of (drop (suc i) ns) (drop (suc i) hs))
      ≡ end_of e (blocks_of (drop i ns) (drop i hs))
  next_end e i [] hs h low inn at = absurd (omega (arith, low))
  next_end e i (n ∷ ns) [] h low inn at = absurd (omega (arith, inn))
  next_end e zero (n ∷ ns) (g ∷ hs) h low inn at =
      ap (λ (x : Held V). end_of (e + size_by (kind_of_held x) n) (blocks_of ns hs)) (sym at)
  next_end e (suc i) (n ∷ ns) (g ∷ hs) h low inn at = next_end e i ns hs h (omega (arith, low)) (omega (arith, inn)) at

  -- what a location shows is the part of the collection that it is in
  pub shown_home : (w : ℕ) (ns : List ℕ) (hs : List (Held V)) (k n l : ℕ) (h : Held V) → w ≤ l → l < end_of w (blocks_of ns hs)
      → home_of w (blocks_of ns hs) l ≡ k → slice_get ns k ≡ Some n → slice_get hs k ≡ Some h
      → shown_from w (blocks_of ns hs) hs l ≡ part n (l - first_of w (blocks_of ns hs) k) (viewed h)
  shown_home w [] hs k n l h ge lt at got is = absurd (omega (arith, ge, lt))
  shown_home w (m ∷ ns) [] k n l h ge lt at got is = absurd (omega (arith, ge, lt))
  shown_home w (m ∷ ns) (g ∷ hs) k n l h ge lt at got is =
      let b : Block = record { kind = kind_of_held g; stripes = m } in
      elim (cases_lt l (w + size b)) [
        | inl low ↦ (
            let yes = lt-ltb l (w + size b) low in
            let here : 0 ≡ k = sym (cond-true (ltb l (w + size b)) 0 (suc (home_of (w + size b) (blocks_of ns hs) l)) yes) ∙ at in
            cond-true (ltb l (w + size b)) (part m (l - w) (viewed g)) (shown_from (w + size b) (blocks_of ns hs) hs l) yes
            ∙ first k here got is)
        | inr high ↦ (
            let no = le-ltb l (w + size b) high in
            let here : suc (home_of (w + size b) (blocks_of ns hs) l) ≡ k = sym
            (cond-false (ltb l (w + size b)) 0 (suc (home_of (w + size b) (blocks_of ns hs) l)) no) ∙ at in
            cond-false (ltb l (w + size b)) (part m (l - w) (viewed g)) (shown_from (w + size b) (blocks_of ns hs) hs l) no
            ∙ later k here got is (λ j e more same. shown_home (w + size_by (kind_of_held g) m) ns hs j n l h high lt e more same))
      ]
    where
      first : (j : ℕ) → 0 ≡ j → slice_get (m ∷ ns) j ≡ Some n → slice_get (g ∷ hs) j ≡ Some h
          → part m (l - w) (viewed g) ≡ part n (l - first_of w (blocks_of (m ∷ ns) (g ∷ hs)) j) (viewed h)
      first zero e got is = (let p : m ≡ n = cc in let q : g ≡ h = cc in
          ap (λ (i : ℕ). part i (l - w) (viewed g)) p ∙ ap (λ (x : Held V). part n (l - w) (viewed x)) q)
      first (suc j) e got is = absurd (omega (arith, e))

      later : (j : ℕ) → suc (home_of (w + size_by (kind_of_held g) m) (blocks_of ns hs) l) ≡ j
          → slice_get (m ∷ ns) j ≡ Some n → slice_get (g ∷ hs) j ≡ Some h
          → ((i : ℕ) → home_of (w + size_by (kind_of_held g) m) (blocks_of ns hs) l ≡ i → slice_get ns i ≡ Some n
          → slice_get hs i ≡ Some h
          → shown_from (w + size_by (kind_of_held g) m) (blocks_of ns hs) hs l
          ≡ part n (l - first_of (w + size_by (kind_of_held g) m) (blocks_of ns hs) i) (viewed h))
          → shown_from (w + size_by (kind_of_held g) m) (blocks_of ns hs) hs l
          ≡ part n (l - first_of w (blocks_of (m ∷ ns) (g ∷ hs)) j) (viewed h)
      later zero e got is more = absurd (omega (arith, e))
      later (suc j) e got is more =
          more j (let z : home_of (w + size_by (kind_of_held g) m) (blocks_of ns hs) l ≡ j = omega (arith, e) in z) got is

-- so many collections have been counted, up to this location
module _ {V : Type 0} where
  pub record IsCounted (words : ℕ) (ns : List ℕ) (hs : List (Held V)) (i end : ℕ) : Type 0 where
    pub rest : end_of end (blocks_of (drop i ns) (drop i hs)) ≡ end_of words (blocks_of ns hs)
    pub low : end ≤ TABLE_LIMIT
    pub counts : AreStripeCounts (drop i ns) (drop i hs) ↔ AreStripeCounts ns hs

  -- the numbers of stripes from one collection on, as that of this one and those of the others
  counts_from : (i : ℕ) (ns : List ℕ) (hs : List (Held V)) (h : Held V) → i < length ns → i < length hs → get_or hs i h ≡ h
      → AreStripeCounts (drop i ns) (drop i hs) ↔ (IsStripeCountOf h (get_or ns i 0) × AreStripeCounts (drop (suc i) ns) (drop (suc i) hs))
  counts_from i [] hs h low inn at = absurd (omega (arith, low))
  counts_from i (n ∷ ns) [] h low inn at = absurd (omega (arith, inn))
  counts_from zero (n ∷ ns) (g ∷ hs) h low inn at = (
    (λ all. (subst (λ (x : Held V). IsStripeCountOf x n) at all.0, all.1)),
    (λ all. (subst (λ (x : Held V). IsStripeCountOf x n) (sym at) all.0, all.1)),
  )
  counts_from (suc i) (n ∷ ns) (g ∷ hs) h low inn at = counts_from i ns hs h (omega (arith, low)) (omega (arith, inn)) at

  -- one more
  pub counts_more : (words i end : ℕ) (ns : List ℕ) (hs : List (Held V)) (h : Held V) → IsCounted words ns hs i end → i < length ns
      → length ns ≡ length hs → get_or hs i h ≡ h → IsStripeCountOf h (get_or ns i 0)
      → AreStripeCounts (drop (i + 1) ns) (drop (i + 1) hs) ↔ AreStripeCounts ns hs
  counts_more words i end ns hs h is low same at fits =
      let from = counts_from i ns hs h low (omega (arith, same, low)) at in
      let next : suc i ≡ i + 1 = omega arith in
      subst (λ j. AreStripeCounts (drop j ns) (drop j hs) ↔ AreStripeCounts ns hs) next (
        (λ left. is.counts.0 (from.1 (fits, left))),
        (λ all. (from.0 (is.counts.1 all)).1),
      )

  -- of the next collection the number is one that it may have, where each is
  pub count_fits : (words i end : ℕ) (ns : List ℕ) (hs : List (Held V)) (h : Held V) → IsCounted words ns hs i end → i < length ns
      → length ns ≡ length hs → get_or hs i h ≡ h → AreStripeCounts ns hs → IsStripeCountOf h (get_or ns i 0)
  count_fits words i end ns hs h is low same at all = ((counts_from i ns hs h low (omega (arith, same, low)) at).0 (is.counts.1 all)).0

  pub counts_one : (words i n end : ℕ) (ns : List ℕ) (hs : List (Held V)) (h : Held V) → IsCounted words ns hs i end → i < length ns
      → length ns ≡ length hs → get_or hs i h ≡ h → get_or ns i 0 ≡ n
      → end_of (end + size_by (kind_of_held h) n) (blocks_of (drop (i + 1) ns) (drop (i + 1) hs)) ≡ end_of words (blocks_of ns hs)
  counts_one words i n end ns hs h is low same at count =
      subst (λ j. end_of (end + size_by (kind_of_held h) n) (blocks_of (drop j ns) (drop j hs)) ≡ end_of words (blocks_of ns hs))
      (let z : suc i ≡ i + 1 = omega arith in z)
      (subst (λ m. end_of (end + size_by (kind_of_held h) m) (blocks_of (drop (suc i) ns) (drop (suc i) hs)) ≡ end_of words
      (blocks_of ns hs))
      count (next_end end i ns hs h low (omega (arith, same, low)) at ∙ is.rest))

  pub past : (words i n end : ℕ) (ns : List ℕ) (hs : List (Held V)) (h : Held V) → IsCounted words ns hs i end → i < length ns
      → length ns ≡ length hs → get_or hs i h ≡ h → get_or ns i 0 ≡ n → TABLE_LIMIT < end + size_by (kind_of_held h) n
      → TABLE_LIMIT < end_of words (blocks_of ns hs)
  past words i n end ns hs h is low same at count over =
      let e = counts_one words i n end ns hs h is low same at count in
      let above = end_above (end + size_by (kind_of_held h) n) (blocks_of (drop (i + 1) ns) (drop (i + 1) hs)) in
      omega (arith, e, above, over)

  pub all_counted : (words i end : ℕ) (ns : List ℕ) (hs : List (Held V)) → IsCounted words ns hs i end → length ns ≤ i
      → (end ≡ end_of words (blocks_of ns hs)) × AreStripeCounts ns hs
  all_counted words i end ns hs is long = (
    (let none : drop i ns ≡ [] = drop_of_length-le ns long in
        ap (λ (ms : List ℕ). end_of end (blocks_of ms (drop i hs))) (sym none) ∙ is.rest),
    is.counts.0 (subst (λ (ms : List ℕ). AreStripeCounts ms (drop i hs)) (sym (drop_of_length-le ns long)) tt),
  )

-- ---- the bases, one after another
module _ {V : Type 0} where
  pub opened_more : (ns : List ℕ) (hs : List (Held V)) (h : Held V) (bases : List (Base V)) (base : Base V) → AreOpened ns hs bases
      → length bases < length ns → IsOpened (get_or ns (length bases) 0) h base → AreOpened ns (hs ++ h ∷ []) (bases ++ base ∷ [])
  opened_more [] hs h bases base a lt is = absurd (omega (arith, lt))
  opened_more (n ∷ ns) [] h [] base a lt is = (is, tt)
  opened_more (n ∷ ns) [] h (b ∷ bases) base a lt is = absurd a
  opened_more (n ∷ ns) (g ∷ hs) h [] base a lt is = absurd a
  opened_more (n ∷ ns) (g ∷ hs) h (b ∷ bases) base a lt is = (a.0, opened_more ns hs h bases base a.1 (omega (arith, lt)) is)

  pub opened_long : (ns : List ℕ) (hs : List (Held V)) (bases : List (Base V)) → AreOpened ns hs bases → length bases ≡ length hs
  opened_long ns [] [] a = refl
  opened_long ns [] (b ∷ bases) a = absurd a
  opened_long [] (h ∷ hs) [] a = absurd a
  opened_long (n ∷ ns) (h ∷ hs) [] a = absurd a
  opened_long [] (h ∷ hs) (b ∷ bases) a = absurd a
  opened_long (n ∷ ns) (h ∷ hs) (b ∷ bases) a = ap suc (opened_long ns hs bases a.1)

  -- the next base is that of a collection that is there, in a number of stripes that is there
  pub next_place : (ns : List ℕ) (hs ys rest : List (Held V)) (h : Held V) (bases : List (Base V)) → length ns ≡ length hs
      → AreOpened ns ys bases → ys ++ h ∷ rest ≡ hs → length bases < length ns
  next_place ns hs ys rest h bases same a is = (
      let long = opened_long ns ys bases a in
      let all = ap length is in
      let parts = length-append ys (h ∷ rest) in
      omega (arith, same, long, all, parts))

-- what is left begins with the next one
pub next_items : {X : Type 0} (ys it rest hs : List X) (h : X) → it ≡ h ∷ rest → ys ++ it ≡ hs → ys ++ h ∷ rest ≡ hs
next_items ys it rest hs h is all = ap (λ r. ys ++ r) (sym is) ∙ all

-- ---- what an opened base shows
module _ {V : Type 0} where
  viewed_is : (h : Held V) (s : Shown V) → view_of h ≡ Some s → viewed h ≡ s
  viewed_is (Map m) s e = cc
  viewed_is (Bag m) s e = cc
  viewed_is (Pq m) s e = cc
  viewed_is (Queue head items) s e = cc

  wide_by : (n : ℕ) (h : Held V) → locations_of n (viewed h) ≡ size_by (kind_of_held h) n
  wide_by n (Map m) = refl
  wide_by n (Bag m) = refl
  wide_by n (Pq m) = refl
  wide_by n (Queue head items) = refl

  opened_fits : (n : ℕ) (h : Held V) (base : Base V) → IsOpened n h base → IsBaseOf (record { kind = kind_of_held h; stripes = n }) base
  opened_fits n h base is =
      let same = viewed_is h (shown_of base) is.shown in
      record {
        kind = ap kind_of (sym same) ∙ kind_viewed h (kind_of_held h) refl;
        stripes = is.stripes;
        wide = ap length is.editions ∙ length-replicate (locations_of n (shown_of base)) 0
            ∙ ap (locations_of n) (sym same) ∙ wide_by n h;
      }

  -- a base that is there is that of a collection
  pub record OpenedAt (ns : List ℕ) (hs : List (Held V)) (k : ℕ) (base : Base V) : Type 0 where
    pub count : ℕ
    pub held : Held V
    pub counted : slice_get ns k ≡ Some count
    pub found : slice_get hs k ≡ Some held
    pub opened : IsOpened count held base
    pub block : block_of (blocks_of ns hs) k ≡ Some (record { kind = kind_of_held held; stripes = count })

  opened_at : (ns : List ℕ) (hs : List (Held V)) (bases : List (Base V)) (k : ℕ) (base : Base V) → AreOpened ns hs bases
      → slice_get bases k ≡ Some base → OpenedAt ns hs k base
  opened_at ns [] [] k base a got = absurd (let b : ⊥ = cc in b)
  opened_at ns [] (b ∷ bases) k base a got = absurd a
  opened_at [] (h ∷ hs) [] k base a got = absurd a
  opened_at (n ∷ ns) (h ∷ hs) [] k base a got = absurd a
  opened_at [] (h ∷ hs) (b ∷ bases) k base a got = absurd a
  opened_at (n ∷ ns) (h ∷ hs) (b ∷ bases) zero base a got =
      let same : b ≡ base = cc in
      record { count = n; held = h; counted = refl; found = refl; opened = subst (IsOpened n h) same a.0; block = refl }
  opened_at (n ∷ ns) (h ∷ hs) (b ∷ bases) (suc k) base a got =
      let z = opened_at ns hs bases k base a.1 got in
      record { count = z.count; held = z.held; counted = z.counted; found = z.found; opened = z.opened; block = z.block }

  pub suits : (ns : List ℕ) (hs : List (Held V)) → length ns ≡ length hs → All IsWithinLimits hs → Suit (blocks_of ns hs) hs
  suits [] [] same all = tt
  suits [] (h ∷ hs) same all = absurd (omega (arith, same))
  suits (n ∷ ns) [] same all = absurd (omega (arith, same))
  suits (n ∷ ns) (h ∷ hs) same all = (
    refl,
    All-head IsWithinLimits h hs all,
    suits ns hs (omega (arith, same)) (All-tail IsWithinLimits h hs all),
  )

  pub have_stripes : (ns : List ℕ) (hs : List (Held V)) → AreStripeCounts ns hs → HaveStripes (blocks_of ns hs)
  have_stripes [] hs all = tt
  have_stripes (n ∷ ns) [] all = tt
  have_stripes (n ∷ ns) (h ∷ hs) all = (all.0.0, have_stripes ns hs all.1)

  -- the number of the collection after these
  pub count_of_next : (ns : List ℕ) (hs gs : List (Held V)) (h : Held V) → AreStripeCounts ns (hs ++ h ∷ gs) → length hs < length ns
      → IsStripeCountOf h (get_or ns (length hs) 0)
  count_of_next [] hs gs h all low = absurd (omega (arith, low))
  count_of_next (n ∷ ns) [] gs h all low = all.0
  count_of_next (n ∷ ns) (g ∷ hs) gs h all low = count_of_next ns hs gs h all.1 (omega (arith, low))

  pub as_many : (ns : List ℕ) (hs : List (Held V)) → length ns ≡ length hs → length (blocks_of ns hs) ≡ length hs
  as_many [] [] same = refl
  as_many [] (h ∷ hs) same = absurd (omega (arith, same))
  as_many (n ∷ ns) [] same = absurd (omega (arith, same))
  as_many (n ∷ ns) (h ∷ hs) same = ap suc (as_many ns hs (omega (arith, same)))

zeros : (n i : ℕ) → let none : ℕ = 0 in get_or (replicate n none) i none ≡ none
zeros n i =
    let none : ℕ = 0 in
    elim (cases_lt i n) [
      | inl low ↦ get_or-replicate n i none none low
      | inr high ↦ get_or-eq_default (replicate n none) none (let z = length-replicate n none in omega (arith, z, high))
    ]

-- words that are followed by zeros
pub filled : (vs ws us : List ℕ) (n m : ℕ) → vs ≡ ws → length ws ≤ n → us ≡ take n vs ++ replicate m 0 → (l : ℕ)
    → get_or us l 0 ≡ get_or ws l 0
filled vs ws us n m same long is l =
    let all : us ≡ ws ++ replicate m 0 = is ∙ ap (λ (x : List ℕ). take n x ++ replicate m 0) same
    ∙ ap (λ (x : List ℕ). x ++ replicate m 0) (take_all n ws long) in
    ap (λ (x : List ℕ). get_or x l 0) all ∙ elim (cases_lt l (length ws)) [
      | inl low ↦ get_or-append ws (replicate m 0) 0 l low
      | inr high ↦ get_or-append_right ws (replicate m 0) l 0 high ∙ zeros m (l - length ws) ∙ sym (get_or-eq_default ws 0 high)
    ]

module _ {V : Type 0} where
  pub opened_on : (ns ms : List ℕ) (hs gs : List (Held V)) (bases : List (Base V)) → ns ≡ ms → hs ≡ gs → AreOpened ns hs bases
      → AreOpened ms gs bases
  opened_on ns ms hs gs bases en eh a = subst (λ x. AreOpened ms x bases) eh (subst (λ x. AreOpened x hs bases) en a)

  pub counted_on : (n : ℕ) (vs ws ns ms : List ℕ) (hs gs : List (Held V)) → n ≡ end_of (length vs) (blocks_of ns hs) → vs ≡ ws → ns ≡ ms
      → hs ≡ gs → n ≡ end_of (length ws) (blocks_of ms gs)
  counted_on n vs ws ns ms hs gs e ev en eh =
      e ∙ ap (λ (x : List ℕ). end_of (length x) (blocks_of ns hs)) ev ∙ ap (λ (x : List ℕ). end_of (length ws) (blocks_of x hs)) en
      ∙ ap (λ (x : List (Held V)). end_of (length ws) (blocks_of ms x)) eh

  -- the words that open, with a 0 for each location of a collection
  pub opens : (t : Table V) (ns : List ℕ) (clock m n : ℕ) (s : Contents V) → t.cells.clock ≡ clock → t.cells.locks.items ≡ replicate m 0
      → ((l : ℕ) → get_or t.cells.values.items l 0 ≡ get_or s.words l 0) → t.gates.items ≡ replicate n 0
      → AreOpened ns s.held t.bases.items → HasTable t (world_of ns clock s)
  unfolding unbits
  opens t ns clock m n s at locks values gates opened = record {
    cells = record {
      clock = sym at;
      locks = λ l. ap unbits (sym (zeros m l) ∙ ap (λ ls. get_or ls l 0) (sym locks));
      values = λ l. sym (values l);
    };
    gates = λ k low. ap holder (sym (zeros n k) ∙ ap (λ gs. get_or gs k 0) (sym gates));
    bases = λ k base got l plain home. (
        let w = length s.words in
        let bs = blocks_of ns s.held in
        let z = opened_at ns s.held t.bases.items k base opened got in
        let inside = in_range w bs l plain in (
          behind w bs s.held l inside.0
              ∙ shown_home w ns s.held k z.count l z.held inside.0 inside.1 home z.counted z.found
              ∙ ap (part z.count (l - first_of w bs k)) (viewed_is z.held (shown_of base) z.opened.shown)
              ∙ ap (λ i. part i (l - first_of w bs k) (shown_of base)) (sym z.opened.stripes),
          get_or-eq_default s.words 0 inside.0 ∙ sym (ap (λ es. get_or es (l - first_of w bs k) 0) z.opened.editions
              ∙ zeros (locations_of z.count (shown_of base)) (l - first_of w bs k)),
        )
        );
  }

  pub shaped : (t : Table V) (ns : List ℕ) (s : Contents V) (m : ℕ) → length ns ≡ length s.held
      → m ≡ end_of (length s.words) (blocks_of ns s.held) → t.cells.locks.items ≡ replicate m 0 → length t.cells.values.items ≡ m
      → length t.gates.items ≡ length s.held → AreOpened ns s.held t.bases.items
      → HasShape t (length s.words) (blocks_of ns s.held)
  shaped t ns s m same count locks values gates opened = record {
    locks = ap length locks ∙ length-replicate m 0 ∙ count;
    values = values ∙ count;
    gates = gates ∙ sym (as_many ns s.held same);
    bases = opened_long ns s.held t.bases.items opened ∙ sym (as_many ns s.held same);
    fit = λ k b base at got. (
        let z = opened_at ns s.held t.bases.items k base opened got in
        let c : Block = record { kind = kind_of_held z.held; stripes = z.count } in
        let is : c ≡ b = (let e : Some c ≡ Some b = sym z.block ∙ at in cc) in
        subst (λ x. IsBaseOf x base) is (opened_fits z.count z.held base z.opened)
        );
  }
