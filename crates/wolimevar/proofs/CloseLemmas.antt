-- What a store leaves.
use Rattle.std.proofs.Common.{◌≡◌, ℕ, List, Option, Some, refl, subst}
use Rattle.seq_model.specs.Contents.{Contents}
use Rattle.seq_model.specs.declared.held.Held.{Held}
use Rattle.shared_table.specs.declared.closed.Closed.{Closed}
use Rattle.shared_table.specs.declared.table.TxTable.{TxTable}
use Rattle.shared_table.specs.Seated.{contents_in, view}
use Rattle.tx_engine.specs.declared.seats.TxSeat.{TxSeat}
use Rattle.tx_engine.specs.Closing as closing
use Rattle.tx_client.specs.declared.tally.Tally.{Tally}
use Rattle.wolimevar.specs.Stores.{IsLeftBy, StoreShown}
use Rattle.wolimevar.specs.StoreSeats.{store_at}

module _ {V : Type 0} where
  pub contents_alike : (st : Contents V) (ws : List ℕ) (hs : List (Held V)) → st.words ≡ ws → st.held ≡ hs
      → st ≡ record { words = ws; held = hs }
  contents_alike st ws hs e f =
      subst (λ (w : List ℕ). st ≡ record { words = w; held = hs }) e
      (subst (λ (h : List (Held V)). st ≡ record { words = st.words; held = h }) f refl)

  pub close_left : (n : ℕ) (t : TxTable V) (seat : Option (TxSeat V)) (s : TxSeat V) (tally : Tally) (shown : StoreShown V) (c : Closed V)
      → store_at n t seat tally ≡ shown → seat ≡ Some s → closing.IsLeftBy (contents_in t) (view s.seat).receipts c
      → IsLeftBy shown (closing.state_of c)
  close_left n t seat s tally shown c v is left =
      let at : store_at n t (Some s) tally ≡ shown = subst (λ (x : Option (TxSeat V)). store_at n t x tally ≡ shown) is v in
      let here : IsLeftBy (store_at n t (Some s) tally) (closing.state_of c) = record {
        order = left.order;
        same = left.same;
        in_order = left.in_order;
        serial = left.serial;
        leaves = left.state;
      } in
      subst (λ (d : StoreShown V). IsLeftBy d (closing.state_of c)) at here
