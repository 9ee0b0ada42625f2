-- What a closed table holds is the state that its world shows.
--
-- No commit is half done, so the world shows what its records leave. Its words are the values that the table has for them, and the parts on
-- the locations of a collection are those of the base that is in its slot, so that they make up what the base shows.
use Rattle.std.proofs.Common.{◌≡◌, ℕ, zero, suc, ◌+◌, ◌-◌, List, [], ◌∷◌, ◌++◌, length, slice_get, take, map, get_or, Some, None, sym, ap}
use Rattle.std.proofs.Common.{◌∙◌, subst, arith}
use Rattle.std.specs.Prelude.{All}
use Rattle.std.proofs.lemmas.List.{map-append}
use Rattle.std.proofs.lemmas.List.FromFn.{fill_by_all, get_or-map-range_with_len, length-map-range_with_len}
use Rattle.std.proofs.lemmas.List.Elements.{All-cons, All-nil}
use Rattle.std.proofs.lemmas.Option.{slice_get_within}
use mathlib.Core.Option.{Option, some, some-injective}
use lib.ListN.{get_elem?}
use Rattle.tx_machine.specs.Cells.{ValueCell}
use Rattle.seq_model.specs.declared.held.Held.{Held}
use Rattle.seq_model.specs.Calls.{IsWithinLimits}
use Rattle.conflict.specs.Footprints.{all_below}
use Rattle.replay_log.specs.declared.base.Base.{Base}
use Rattle.replay_log.specs.Base.{held_of, shown_of, stripes_of}
use Rattle.replay_log.specs.Collections.{Suit}
use Rattle.replay_log.specs.Contents.{Block, HaveStripes, end_of, first_of}
use Rattle.replay_log.specs.Parts.{part}
use Rattle.replay_log.specs.Seats.{World}
use Rattle.replay_log.specs.WorldTraces.{held_from, state}
use Rattle.replay_log.proofs.ContentLemmas.{end_above, home_is, not_plain}
use Rattle.actor_laws.specs.Bases.{IsBaseOf}
use Rattle.actor_parts.proofs.StateLemmas.{Shows, all_held}
use Rattle.shared_table.specs.Ends.{bases_in}
use Rattle.shared_table.specs.Layout.{address, values_in}
use Rattle.shared_table.specs.Shown.{Slot, Table}

-- the collections that suit blocks are within the limits
pub suit_within : {V : Type 0} (bs : List Block) (hs : List (Held V)) → Suit bs hs → All IsWithinLimits hs
suit_within [] [] s = All-nil IsWithinLimits
suit_within [] (h ∷ hs) s = absurd s
suit_within (b ∷ bs) [] s = absurd s
suit_within (b ∷ bs) (h ∷ hs) s = All-cons IsWithinLimits h hs s.1 (suit_within bs hs s.2)

module _ {V : Type 0} where
  -- what is in the slots of collections
  abbrev pub AreHome : List (Option (Slot V)) → List (Base V) → Type 0
  AreHome homes ds = (k : ℕ) (d : Base V) → slice_get ds k ≡ Some d → get_elem? homes k ≡ some (some (Some d))

  pub same_home : (x : Option (Option (Slot V))) (b d : Base V) → x ≡ some (some (Some b)) → x ≡ some (some (Some d)) → b ≡ d
  same_home x b d p q =
      let e : some (some (Some b)) ≡ some (some (Some d)) = sym p ∙ q in
      let f : some (Some b) ≡ some (Some d) = some-injective (some (Some b)) (some (Some d)) e in
      let g : Some b ≡ Some d = some-injective (Some b) (Some d) f in
      cc

  home_shows : (n : ℕ) (bs : List Block) (w : World V) (words : List ℕ) (homes : List (Option (Slot V))) (ds : List (Base V))
      → Table n bs w words homes → ((k : ℕ) → w.boosted.gates k ≡ None) → length ds ≡ length bs → AreHome homes ds
      → Shows n bs w.boosted.parts ds
  home_shows n bs w words homes ds t free long home k b base is at =
      let low = slice_get_within ds k base at in
      let there = (t.slots k (omega (arith, low, long))).0 (free k) in
      let same : there.0 ≡ base = same_home (get_elem? homes k) there.0 base there.1 (home k base at) in (
        subst (λ (d : Base V). IsBaseOf b d) same (there.2 b is),
        λ i lt. (
            let f = first_of n bs k in
            let shown = there.3 (f + i) (not_plain n bs k i b is lt) (home_is n bs k i b is lt) in
            let back : (f + i) - f ≡ i = omega arith in
            shown.0 ∙ ap (λ j. part (stripes_of there.0) j (shown_of there.0)) back
            ∙ ap (λ (d : Base V). part (stripes_of d) i (shown_of d)) same),
      )

  pub shows_left : (n : ℕ) (bs : List Block) (w : World V) (words : List ℕ) (homes : List (Option (Slot V))) (ds : List (Base V))
      → w.words ≡ n → w.blocks ≡ bs → HaveStripes bs → Table n bs w words homes → ((k : ℕ) → w.boosted.gates k ≡ None)
      → length ds ≡ length bs → AreHome homes ds
      → state w ≡ record { words = values_in (end_of n bs) n words; held = map (λ d. held_of (shown_of d)) ds }
  shows_left n bs w words homes ds e1 e2 pos t free long home =
      let m = end_of n bs in
      let above = end_above n bs in
      let first : map w.boosted.words.values (all_below n) ≡ values_in m n words =
      fill_by_all (λ (l : ℕ). get_or words (address m (ValueCell l)) 0) (map w.boosted.words.values (all_below n)) n 0
      (length-map-range_with_len w.boosted.words.values 0 n)
      (λ l lt. get_or-map-range_with_len w.boosted.words.values 0 n l l 0 lt (omega arith)
      ∙ sym (t.cells (ValueCell l) (omega (arith, lt, above)))) in
      (λ i. record { words = map w.boosted.words.values (all_below (e1 i)); held = held_from (e1 i) (e2 i) w.boosted.parts })
      ∙ (ap (λ (ws : List ℕ). record { words = ws; held = held_from n bs w.boosted.parts }) first
      ∙ ap (λ (hs : List (Held V)). record { words = values_in m n words; held = hs })
      (all_held n bs w.boosted.parts ds long pos (home_shows n bs w words homes ds t free long home)))

  -- one base more among the first of the slots
  pub bases_grow : (slots : List (Slot V)) (k : ℕ) (d : Base V) → get_elem? slots k ≡ some (Some d)
      → bases_in (take (k + 1) slots) ≡ bases_in (take k slots) ++ d ∷ []
  bases_grow [] k d at = let z : ⊥ = cc in absurd z
  bases_grow (None ∷ slots) zero d at = let z : ⊥ = cc in absurd z
  bases_grow (Some b ∷ slots) zero d at = let e : b ≡ d = cc in ap (λ x. x ∷ []) e
  bases_grow (None ∷ slots) (suc k) d at =
      let more : suc k + 1 ≡ suc (k + 1) = omega arith in
      ap (λ n. bases_in (take n (None ∷ slots))) more ∙ bases_grow slots k d at
  bases_grow (Some b ∷ slots) (suc k) d at =
      let more : suc k + 1 ≡ suc (k + 1) = omega arith in
      ap (λ n. bases_in (take n (Some b ∷ slots))) more ∙ ap (λ bs. b ∷ bs) (bases_grow slots k d at)

  pub held_grow : (slots : List (Slot V)) (k : ℕ) (d : Base V) (before now : List (Held V)) (h : Held V)
      → get_elem? slots k ≡ some (Some d) → before ≡ map (λ b. held_of (shown_of b)) (bases_in (take k slots))
      → h ≡ held_of (shown_of d) → now ≡ before ++ h ∷ [] → now ≡ map (λ b. held_of (shown_of b)) (bases_in (take (k + 1) slots))
  held_grow slots k d before now h at so_far is pushed =
      let f = λ (b : Base V). held_of (shown_of b) in
      pushed ∙ ((λ i. so_far i ++ is i ∷ [])
      ∙ (sym (map-append f (bases_in (take k slots)) (d ∷ [])) ∙ ap (map f) (sym (bases_grow slots k d at))))
