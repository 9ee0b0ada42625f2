-- A table that was laid out meets its rule: the words are at their addresses, the gates are free, and each base is in its slot.
use Rattle.actor_parts.specs.declared.blocks.TheConstants.{TABLE_LIMIT, COLLECTION_LIMIT}
use Rattle.std.proofs.Common.{◌≡◌, ℕ, zero, suc, ◌≤◌, List, [], ◌∷◌, Some, length, get_or, sym, refl, ap, ◌∙◌, subst, arith}
use Rattle.std.specs.Prelude.{map, slice_get}
use Rattle.std.proofs.lemmas.List.{length-map}
use mathlib.Core.Option.{some, some-injective, some-ne-none}
use lib.ListN.{get_elem?}
use Rattle.seq_model.specs.Contents.{Contents}
use Rattle.seq_model.specs.declared.event.Shape.{Shape}
use Rattle.tx_machine.specs.Actor.{clock_limit}
use Rattle.tx_machine.specs.Cells.{Cell, ClockCell, LockCell, ValueCell, cell}
use Rattle.replay_log.specs.Collections.{Suit}
use Rattle.replay_log.specs.Contents.{HaveStripes}
use Rattle.replay_log.proofs.ContentLemmas.{end_above}
use Rattle.actor_parts.specs.declared.table.Table.{Table as Laid}
use Rattle.actor_parts.specs.Openings.{HasShape, IsWithin, blocks_of, world_of}
use Rattle.actor_parts.proofs.OpeningLemmas.{as_many}
use Rattle.actor_parts.specs.Tables.{HasTable}
use Rattle.shared_table.specs.declared.view.Opening.{Opening}
use Rattle.shared_table.specs.Layout.{address, gate_address, IsInside, IsLaidOut, width}
use Rattle.shared_table.specs.Opening.{Holds, blocks_at, locations_at, words_at, world_at}
use Rattle.shared_table.specs.Shown.{Slot, Table, first}
use Rattle.shared_table.proofs.Numbers.{map_at, there}
use Rattle.shared_table.proofs.Ends.{opening_is, opens_rule}

module _ {A : Type 0} where
  got : (l : List A) (i : ℕ) (v : A) → get_elem? l i ≡ some v → slice_get l i ≡ Some v
  got [] i v e = absurd (some-ne-none v (sym e))
  got (x ∷ xs) zero v e = ap (λ (y : A). Some y) (some-injective x v e)
  got (x ∷ xs) (suc i) v e = got xs i v e

module _ {V : Type 0} where
  -- the words of a table that opens, as it was laid out
  abbrev pub IsRow : Laid V → List ℕ → Type 0
  IsRow t row = IsLaidOut t.cells.clock t.cells.values.items (length t.cells.values.items) (length t.gates.items) row

  pub row_as : (t : Laid V) (row made values : List ℕ) (gates : ℕ) → row ≡ made → values ≡ t.cells.values.items
      → gates ≡ length t.gates.items → IsLaidOut t.cells.clock values (length values) gates made → IsRow t row
  row_as t row made values gates row_is values_are gates_are laid =
      subst (λ (z : List ℕ × List ℕ × ℕ). IsLaidOut t.cells.clock z.1 (length z.1) z.2 z.0)
      (λ i. (sym row_is i, values_are i, gates_are i)) laid

  lays : (key : Opening V) (t : Laid V) (row : List ℕ) → HasTable t (world_at key) → HasShape t (words_at key) (blocks_at key)
      → IsRow t row → Table (words_at key) (blocks_at key) (world_at key) row (map some (map Some t.bases.items))
  lays key t row has shape laid = record {
    wide = laid.wide ∙ (λ i. width (shape.values i) (shape.gates i));
    cells = λ c inner. by_cell c (subst (λ (z : ℕ). IsInside z c) (sym shape.values) inner)
        (ap (λ (z : ℕ). get_or row (address z c) 0) (sym shape.values));
    gates = λ k low. ap (λ (z : ℕ). get_or row (gate_address z k) 0) (sym shape.values)
        ∙ laid.gates k (let g = shape.gates in omega arith);
    slots = λ k low. (
      λ free. (let b = there t.bases.items k (let g = shape.bases in omega arith) in
          let at = got t.bases.items k b.0 b.1 in (
            b.0,
            map_at some (map Some t.bases.items) k (Some b.0) (map_at Some t.bases.items k b.0 b.1),
            λ c e. shape.fit k c b.0 e at,
            has.bases k b.0 at,
          )),
      λ j taken. absurd (let z : ⊥ = cc in z),
    );
  }
    where
      n : ℕ
      n = length t.cells.values.items

      by_cell : (c : Cell) → IsInside n c → get_or row (address (locations_at key) c) 0 ≡ get_or row (address n c) 0
          → get_or row (address (locations_at key) c) 0 ≡ cell (world_at key).boosted.words c
      by_cell ClockCell inner e = laid.clock ∙ sym has.cells.clock
      by_cell (LockCell l) inner e = e ∙ laid.locks l inner
      by_cell (ValueCell l) inner e = e ∙ laid.valued l inner ∙ sym (has.cells.values l)

  pub opens_table : (key : Opening V) (t : Laid V) (row : List ℕ) (xs : List (Slot V)) → HasTable t (world_at key)
      → HasShape t (words_at key) (blocks_at key) → HaveStripes (blocks_at key) → Suit (blocks_at key) key.state.value.held
      → key.shape.value.clock ≤ clock_limit
      → IsRow t row → xs ≡ map Some t.bases.items
      → Holds key (record { words = row; homes = map some xs; views = first ∷ [] })
  opens_table key t row xs has shape stripes suits low is homes = record {
    stripes = stripes;
    suits = suits;
    rule = opens_rule (world_at key) row (map some xs)
        (opening_is (blocks_at key) key.shape.value.clock key.state.value.words key.state.value.held) low refl
        (subst (λ (ys : List (Slot V)). Table (words_at key) (blocks_at key) (world_at key) row (map some ys)) (sym homes)
        (lays key t row has shape is));
  }

  -- a table that was laid out for this shape and these contents, as its opening notes them
  module _ (key : Opening V) (shape : Shape) (s : Contents V) (t : Laid V) (row : List ℕ) (xs : List (Slot V))
      (shape_is : key.shape.value ≡ shape)
      (state_is : key.state.value ≡ s) (fits : HasShape t (length s.words) (blocks_of shape.stripes s.held))
      (is : IsRow t row)
      (homes : xs ≡ map Some t.bases.items) where
    fits_key : HasShape t (words_at key) (blocks_at key)
    fits_key = subst (λ (z : Shape × Contents V). HasShape t (length z.1.words) (blocks_of z.0.stripes z.1.held))
        (λ i. (sym shape_is i, sym state_is i)) fits

    pub meets : HasTable t (world_of shape.stripes shape.clock s) → HaveStripes (blocks_of shape.stripes s.held)
        → Suit (blocks_of shape.stripes s.held) s.held → shape.clock ≤ clock_limit
        → Holds key (record { words = row; homes = map some xs; views = first ∷ [] })
    meets has stripes suits low = opens_table key t row xs
        (subst (λ (z : Shape × Contents V). HasTable t (world_of z.0.stripes z.0.clock z.1)) (λ i. (sym shape_is i, sym state_is i)) has)
        fits_key
        (subst (λ (z : Shape × Contents V). HaveStripes (blocks_of z.0.stripes z.1.held)) (λ i. (sym shape_is i, sym state_is i)) stripes)
        (subst (λ (z : Shape × Contents V). Suit (blocks_of z.0.stripes z.1.held) z.1.held) (λ i. (sym shape_is i, sym state_is i)) suits)
        (subst (λ (z : Shape). z.clock ≤ clock_limit) (sym shape_is) low) is homes

    pub words_are : length s.words ≡ words_at key
    words_are = ap (λ (z : Contents V). length z.words) (sym state_is)

    pub locations_are : length t.cells.values.items ≡ locations_at key
    locations_are = fits_key.values

    pub wide_as : length row ≡ width (length t.cells.values.items) (length (blocks_at key))
    wide_as = is.wide ∙ ap (λ (m : ℕ). width (length t.cells.values.items) m) fits_key.gates

    pub slots_are : length xs ≡ length (blocks_at key)
    slots_are = ap (λ (ys : List (Slot V)). length ys) homes ∙ length-map t.bases.items Some ∙ fits_key.bases

    pub few : IsWithin shape.stripes shape.clock s → length shape.stripes ≡ length s.held
        → (length t.cells.values.items ≤ TABLE_LIMIT) × (length (blocks_at key) ≤ COLLECTION_LIMIT)
    few within same =
        let a = fits.values in
        let b = within.locations in
        let c : length (blocks_at key) ≡ length (blocks_of shape.stripes s.held) =
        ap (λ (z : Shape × Contents V). length (blocks_of z.0.stripes z.1.held)) (λ i. (shape_is i, state_is i)) in
        let d = as_many shape.stripes s.held same in
        let e = within.collections in (omega arith, omega arith)

  pub few_words : (shape : Shape) (s : Contents V) → IsWithin shape.stripes shape.clock s → length s.words ≤ TABLE_LIMIT
  few_words shape s within =
      let a = within.locations in
      let b = end_above (length s.words) (blocks_of shape.stripes s.held) in omega arith
