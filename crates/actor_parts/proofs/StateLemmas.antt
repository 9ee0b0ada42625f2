-- What a table's words and bases hold is the state that its world shows.
--
-- The parts on the locations of a block are those of its base, and so they make up what the base shows. Block by block that is the
-- list of what the bases hold; and each word has the value that the table has for it.
use Rattle.std.proofs.Common.{◌≡◌, ℕ, zero, suc, ◌+◌, ◌-◌, ◌<◌, ◌≤◌, List, [], ◌∷◌, Some, length, take, get_or, refl, sym, ap, ◌∙◌, subst}
use Rattle.std.proofs.Common.{inr, arith}
use Rattle.std.specs.Prelude.{All, Err, IfErr, IfOk, Ok, Result, map, slice_get, ◌⊎◌}
use Rattle.std.proofs.lemmas.List.{ext_get_or, get_or-take, length-take-le}
use Rattle.std.proofs.lemmas.List.FromFn.{get_or-map-range_with_len, length-map-range_with_len}
use Rattle.seq_model.specs.declared.held.Held.{Held}
use Rattle.seq_model.specs.declared.refusal.Refusal.{Refusal}
use Rattle.seq_model.specs.declared.refusal.Refusal.TheVariants.{Memory as OutOfMemory, TooLong}
use Rattle.seq_model.specs.Calls.{IsWithinLimits}
use Rattle.seq_model.specs.Contents.{Contents}
use Rattle.conflict.specs.Footprints.{all_below}
use Rattle.replay_log.specs.declared.base.Base.{Base}
use Rattle.replay_log.specs.Base.{Shown, held_of, shown_of, stripes_of}
use Rattle.replay_log.specs.Contents.{Block, HaveStripes, block_of, first_of, seen, size}
use Rattle.replay_log.specs.Parts.{part, whole}
use Rattle.replay_log.specs.Seats.{World}
use Rattle.replay_log.specs.WorldTraces.{held_from, state}
use Rattle.replay_log.proofs.ContentLemmas.{end_above, home_is, not_plain}
use Rattle.replay_log.proofs.PartLemmas.{is_whole, whole_local}
use Rattle.actor_laws.specs.Bases.{IsBaseOf}
use Rattle.actor_parts.specs.Openings.{HasShape}
use Rattle.actor_parts.specs.States.{held_in}
use Rattle.actor_parts.specs.Tables.{HasTable}
use Rattle.actor_parts.specs.declared.table.Table.{Table}

-- the first of the numbers of a function are those of a list
pub words_are : (count : ℕ) (values : ℕ → ℕ) (ws : List ℕ) → count ≤ length ws → ((l : ℕ) → l < count → values l ≡ get_or ws l 0)
    → map values (all_below count) ≡ take count ws
words_are count values ws low same =
    let long = length-map-range_with_len values 0 count in
    let short = length-take-le count ws low in
    ext_get_or 0 (map values (all_below count)) (take count ws) (long ∙ sym short)
    (λ i lt. (let below : i < count = omega (arith, lt, long) in
    get_or-map-range_with_len values 0 count i i 0 below (omega arith) ∙ same i below ∙ sym (get_or-take count ws i 0 below)))

module _ {V : Type 0} where
  -- the parts of a base make up what it shows
  seen_is : (b : Block) (f : ℕ) (v : ℕ → Shown V) (base : Base V) → 0 < b.stripes → IsBaseOf b base
      → ((i : ℕ) → i < size b → v (f + i) ≡ part (stripes_of base) i (shown_of base)) → seen b f v ≡ shown_of base
  seen_is b f v base pos fit same =
      whole_local b.stripes b.kind (λ i. v (f + i)) (λ i. part b.stripes i (shown_of base)) pos
      (λ i lt. same i lt ∙ ap (λ n. part n i (shown_of base)) fit.stripes)
      ∙ ap (λ k. whole b.stripes k (λ i. part b.stripes i (shown_of base))) (sym fit.kind)
      ∙ is_whole b.stripes (shown_of base) pos

  -- base k shows what is on the locations of block k
  abbrev pub Shows : ℕ → List Block → (ℕ → Shown V) → List (Base V) → Type 0
  Shows f bs v bases =
      (k : ℕ) (b : Block) (base : Base V) → block_of bs k ≡ Some b → slice_get bases k ≡ Some base
      → IsBaseOf b base × ((i : ℕ) → i < size b → v (first_of f bs k + i) ≡ part (stripes_of base) i (shown_of base))

  pub all_held : (f : ℕ) (bs : List Block) (v : ℕ → Shown V) (bases : List (Base V)) → length bases ≡ length bs → HaveStripes bs
      → Shows f bs v bases → held_from f bs v ≡ map (λ base. held_of (shown_of base)) bases
  all_held f [] v [] same pos each = refl
  all_held f [] v (x ∷ bases) same pos each = absurd (omega (arith, same))
  all_held f (b ∷ bs) v [] same pos each = absurd (omega (arith, same))
  all_held f (b ∷ bs) v (x ∷ bases) same pos each =
      let here = each zero b x refl refl in
      ap (λ (h : Held V). h ∷ held_from (f + size b) bs v) (ap held_of (seen_is b f v x pos.0 here.0 here.1))
      ∙ ap (λ (hs : List (Held V)). held_of (shown_of x) ∷ hs)
      (all_held (f + size b) bs v bases (omega (arith, same)) pos.1 (λ k c y at got. each (suc k) c y at got))

  pub shows_state : (t : Table V) (w : World V) (ws : List ℕ) → HasTable t w → HasShape t w.words w.blocks → HaveStripes w.blocks
      → ws ≡ take w.words t.cells.values.items → state w ≡ record { words = ws; held = held_in t }
  shows_state t w ws h shape pos is =
      let f = λ (k : ℕ). first_of w.words w.blocks k in
      ap (λ (x : List ℕ). record { words = x; held = held_from w.words w.blocks w.boosted.parts })
      (words_are w.words w.boosted.words.values t.cells.values.items
      (let above = end_above w.words w.blocks in let long = shape.values in omega (arith, above, long)) (λ l _. h.cells.values l) ∙ sym is)
      ∙ ap (λ (hs : List (Held V)). record { words = ws; held = hs })
      (all_held w.words w.blocks w.boosted.parts t.bases.items shape.bases pos
      (λ k b base at got. (
        shape.fit k b base at got,
        (λ i lt. (
            let shown = h.bases k base got (f k + i) (not_plain w.words w.blocks k i b at lt) (home_is w.words w.blocks k i b at lt) in
            let there : (f k + i) - f k ≡ i = omega arith in
            shown.0 ∙ ap (λ j. part (stripes_of base) j (shown_of base)) there)),
      )))

  -- what is said of a state that is made of these
  pub told : (t : Table V) (n : ℕ) (ws : List ℕ) (hs : List (Held V)) (r : Result (Contents V) Refusal) → ws ≡ take n t.cells.values.items
      → hs ≡ held_in t → IfOk r (λ s. s.words ≡ ws) → IfOk r (λ s. s.held ≡ hs)
      → IfOk r (λ s. (w : World V) → HasTable t w → HasShape t w.words w.blocks → HaveStripes w.blocks → w.words ≡ n → state w ≡ s)
  told t n ws hs (Ok s) first held at_words at_held = λ w h shape pos at. (
      shows_state t w ws h shape pos (first ∙ ap (λ m. take m t.cells.values.items) (sym at))
      ∙ ap (λ (x : List (Held V)). record { words = ws; held = x }) (sym (at_held ∙ held))
      ∙ ap (λ (x : List ℕ). record { words = x; held = s.held }) (sym at_words))
  told t n ws hs (Err e) first held at_words at_held = at_words

  pub beyond : (t : Table V) (hs : List (Held V)) (r : Result (Contents V) Refusal) → hs ≡ held_in t
      → IfErr r (λ e. (e ≡ TooLong) × ¬ All IsWithinLimits hs)
      → IfErr r (λ e. (e ≡ OutOfMemory) ⊎ ((e ≡ TooLong) × ¬ All IsWithinLimits (held_in t)))
  beyond t hs (Ok s) same told = told
  beyond t hs (Err e) same told =
      inr (told.0, subst (λ (x : List (Held V)). ¬ All IsWithinLimits x) same told.1)
