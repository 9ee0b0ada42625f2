-- What a closed table holds, of the closed table itself: no slot is empty, so its bases are those in the slots, in order.
use Rattle.std.proofs.Common.{◌≡◌, ℕ, zero, suc, ◌<◌, List, [], ◌∷◌, Some, None}
use Rattle.std.proofs.Common.{length, map, slice_get, get_or, refl, sym, ap, ◌∙◌, subst}
use Rattle.std.specs.Prelude.{All}
use Rattle.std.proofs.lemmas.Option.{slice_get-map}
use Rattle.std.specs.Option.{option_map}
use mathlib.Core.Option.{some}
use lib.ListN.{get_elem?}
use Rattle.seq_model.specs.Calls.{IsWithinLimits}
use Rattle.seq_model.specs.Contents.{Contents}
use Rattle.seq_model.specs.Runs.{after_run}
use Rattle.replay_log.specs.declared.base.Base.{Base}
use Rattle.replay_log.specs.Base.{held_of, shown_of}
use Rattle.replay_log.specs.Contents.{Block, end_of}
use Rattle.tx_machine.specs.Cells.{ValueCell}
use Rattle.shared_table.specs.declared.closed.Closed.{Closed}
use Rattle.shared_table.specs.Ends.{bases_in, held_in, homes_of, row_of}
use Rattle.shared_table.specs.declared.view.SeatKnowledge.{SeatKnowledge}
use Rattle.shared_table.specs.Layout.{address, values_in}
use Rattle.shared_table.specs.Shown.{Closes, Slot}
use Rattle.shared_table.proofs.Numbers.{map_at}
use Rattle.tx_engine.specs.Closing.{IsLeftBy, state_of}

module _ {V : Type 0} where
  abbrev AreFull : List (Slot V) → Type 0
  AreFull slots = (k : ℕ) → get_elem? slots k ≡ some None → ⊥

  bases_length : (slots : List (Slot V)) → AreFull slots → length (bases_in slots) ≡ length slots
  bases_length [] full = refl
  bases_length (None ∷ slots) full = absurd (full zero refl)
  bases_length (Some b ∷ slots) full = ap suc (bases_length slots (λ k e. full (suc k) e))

  slot_base : (slots : List (Slot V)) (k : ℕ) (base : Base V) → AreFull slots → get_elem? slots k ≡ some (Some base)
      → slice_get (bases_in slots) k ≡ Some base
  slot_base [] k base full at = let z : ⊥ = cc in absurd z
  slot_base (None ∷ slots) k base full at = absurd (full zero refl)
  slot_base (Some b ∷ slots) zero base full at = cc
  slot_base (Some b ∷ slots) (suc k) base full at = slot_base slots k base (λ j e. full (suc j) e) at

  base_slot : (slots : List (Slot V)) (k : ℕ) (base : Base V) → AreFull slots → slice_get (bases_in slots) k ≡ Some base
      → get_elem? slots k ≡ some (Some base)
  base_slot [] k base full at = let z : ⊥ = cc in absurd z
  base_slot (None ∷ slots) k base full at = absurd (full zero refl)
  base_slot (Some b ∷ slots) zero base full at = let e : b ≡ base = cc in ap (λ x. some (Some x)) e
  base_slot (Some b ∷ slots) (suc k) base full at = base_slot slots k base (λ j e. full (suc j) e) at

  -- The table that is closed had so many words and these blocks.
  pub left_by : (n : ℕ) (bs : List Block) (opening : Contents V) (v : SeatKnowledge V) (c : Closed V) → c.words ≡ n
      → c.locations ≡ end_of n bs
      → length (homes_of c) ≡ length bs → Closes n bs opening v (row_of c) (map some (homes_of c)) → IsLeftBy opening v.receipts c
  left_by n bs opening v c words locations wide closes = record {
    order = closes.order;
    same = closes.same;
    in_order = closes.in_order;
    numbers = closes.numbers;
    serial = closes.serial;
    words = λ w low. ap (λ m. get_or (row_of c) (address m (ValueCell w)) 0) locations ∙ closes.values w (subst (λ m. w < m) words low);
    collections = λ k base at. ap (λ (s : Contents V). slice_get s.held k) state
        ∙ (slice_get-map (λ (b : Base V). held_of (shown_of b)) (bases_in (homes_of c)) k
        ∙ ap (option_map (λ (b : Base V). held_of (shown_of b))) (slot_base (homes_of c) k base c.home at));
    within = subst (λ (s : Contents V). All IsWithinLimits s.held) state closes.within;
    state = state;
  }
    where
      state : after_run closes.order opening ≡ state_of c
      state = closes.state (bases_in (homes_of c)) (bases_length (homes_of c) c.home ∙ wide)
          (λ k d at. map_at some (homes_of c) k (Some d) (base_slot (homes_of c) k d c.home at))
          ∙ (λ i. record { words = values_in (sym locations i) (sym words i) (row_of c); held = held_in c })
