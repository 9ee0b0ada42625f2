-- Seats that are split off and joined again.
use Rattle.std.proofs.Common.{◌≡◌, ℕ, ◌+◌, ◌-◌, ◌<◌, ◌++◌, refl, sym, ap, ◌∙◌, arith}
use Rattle.std.specs.Prelude.{max}
use Rattle.std.proofs.lemmas.List.{append-nil}
use Rattle.shared_table.specs.declared.seat.Seat.{Seat}
use Rattle.shared_table.specs.declared.table.TxTable.{TxTable}
use Rattle.shared_table.specs.declared.view.SeatKnowledge.{SeatKnowledge}
use Rattle.shared_table.specs.Seated.{actor, view}
use Rattle.shared_table.specs.Shown.{both_of, left_of, right_of}
use Rattle.tx_turns.specs.RequestHistory.{requests_of}
use Rattle.tx_engine.specs.declared.seats.TxSeat.{TxSeat}
use Rattle.tx_engine.specs.Ready.{IsReady}
use Rattle.wolimevar.specs.Splits.{HasLeft, IsUnused}

module _ {V : Type 0} where
  pub left_none : (s : Seat V) → HasLeft 0 s s
  left_none s = record { shares = omega arith; receipts = refl; last = refl; asked = refl }

  pub left_one : (s u : Seat V) → 1 < (view s).shares → view u ≡ left_of 1 (view s) → u.last ≡ s.last → requests_of u ≡ requests_of s
      → HasLeft 1 s u
  left_one s u fewer left last asked =
      let e : (view u).shares ≡ (view s).shares - 1 = ap (λ (w : SeatKnowledge V). w.shares) left in
      record {
        shares = omega (arith, fewer, e);
        receipts = ap (λ (w : SeatKnowledge V). w.receipts) left;
        last = last;
        asked = asked;
      }

  pub split_unused : (t : TxTable V) (s : Seat V) (own : TxSeat V) → IsReady t own → view own.seat ≡ right_of 1 (view s)
      → own.seat.last ≡ 0 → IsUnused t own
  split_unused t s own ready right last = record {
    ready = ready;
    share = ap (λ (w : SeatKnowledge V). w.shares) right;
    none = ap (λ (w : SeatKnowledge V). w.receipts) right;
    last = last;
  }

  -- one that was not used is joined again
  pub joined_unused : (t : TxTable V) (s u : Seat V) (own : TxSeat V) → IsUnused t own
      → view u ≡ both_of (view s) (actor own.seat) (view own.seat) → u.last ≡ max s.last own.seat.last
      → requests_of u ≡ requests_of s → HasLeft 1 u s
  joined_unused t s u own unused both last asked =
      let e : (view u).shares ≡ (view s).shares + (view own.seat).shares = ap (λ (w : SeatKnowledge V). w.shares) both in
      let share = unused.share in
      let zero = unused.last in
      record {
        shares = omega (arith, e, share);
        receipts = sym (ap (λ (w : SeatKnowledge V). w.receipts) both ∙ ap (λ rs. (view s).receipts ++ rs) unused.none
            ∙ append-nil (view s).receipts);
        last = omega (arith, last, zero);
        asked = sym asked;
      }

  pub then_left : (n k j : ℕ) (s m u : Seat V) → HasLeft n s m → HasLeft k m u → n + k ≡ j → HasLeft j s u
  then_left n k j s m u h l e =
      let a = h.shares in
      let b = l.shares in
      record {
        shares = omega (arith, a, b, e);
        receipts = l.receipts ∙ h.receipts;
        last = l.last ∙ h.last;
        asked = l.asked ∙ h.asked;
      }

  -- what was split off is joined again
  pub left_back : (n : ℕ) (s m u : Seat V) → HasLeft n s m → HasLeft n u m → HasLeft 0 s u
  left_back n s m u h k =
      let a = h.shares in
      let b = k.shares in
      record {
        shares = omega (arith, a, b);
        receipts = sym k.receipts ∙ h.receipts;
        last = sym k.last ∙ h.last;
        asked = sym k.asked ∙ h.asked;
      }
