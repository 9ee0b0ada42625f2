-- What a store has of the attempts of a body.
use Rattle.std.proofs.Common.{◌≡◌, ℕ, ◌≤◌, List, [], ◌∷◌, ◌++◌, Option, Some, Ok, Err, refl, ap, ◌∙◌, subst}
use Rattle.std.specs.Prelude.{IfOk, OnErr, Result}
use Rattle.seq_model.specs.declared.call.Call.{Call}
use Rattle.seq_model.specs.declared.call.Reply.{Reply}
use Rattle.seq_model.specs.declared.record.Record.{Record}
use Rattle.shared_table.specs.declared.table.TxTable.{TxTable}
use Rattle.shared_table.specs.Seated.{actor, view}
use Rattle.shared_table.specs.declared.view.TheConstants.{SHARES}
use Rattle.tx_turns.specs.RequestHistory.{requests_of}
use Rattle.tx_engine.specs.declared.seats.TxSeat.{TxSeat}
use Rattle.tx_engine.specs.Ready.{IsReady}
use Rattle.seq_model.specs.declared.failure.Failure.{Failure}
use Rattle.tx_client.specs.declared.tally.Tally.{Tally}
use Rattle.tx_client.specs.Ends.{EndsAs}
use Rattle.wolimevar.specs.Splits.{HasLeft}
use Rattle.wolimevar.specs.Stores.{StoreShown}
use Rattle.wolimevar.specs.StoreSeats.{IsAtStore, store_at}
use Rattle.tx_client.proofs.EndLemmas.{gained, gained_none}
use Rattle.tx_client.proofs.FrameLemmas.{own_is}

module _ {V : Type 0} where
  -- the store is one with another seat that is ready and has as many shares
  pub store_on : (t : TxTable V) (seat : Option (TxSeat V)) (s u : TxSeat V) → IsAtStore t seat → seat ≡ Some s → IsReady t u
      → (view u.seat).shares ≡ (view s.seat).shares → IsAtStore t (Some u)
  store_on t seat s u h e ready same = record {
    own = u;
    is = refl;
    ready = ready;
    whole = same ∙ subst (λ (x : TxSeat V). (view x.seat).shares ≡ SHARES) (own_is seat h.own s h.is e) h.whole;
  }

  pub store_same : (n : ℕ) (t : TxTable V) (s u : TxSeat V) (tally : Tally) → (view u.seat).receipts ≡ (view s.seat).receipts
      → u.seat.last ≡ s.seat.last → requests_of u.seat ≡ requests_of s.seat → store_at n t (Some u) tally ≡ store_at n t (Some s) tally
  store_same n t s u tally receipts last asked = cc

  pub store_shows : (n : ℕ) (t : TxTable V) (seat : Option (TxSeat V)) (s : TxSeat V) (tally : Tally) (d : StoreShown V)
      → store_at n t seat tally ≡ d → seat ≡ Some s → store_at n t (Some s) tally ≡ d
  store_shows n t seat s tally d v e = subst (λ (x : Option (TxSeat V)). store_at n t x tally ≡ d) e v

module _ {V A E : Type 0} (makes : A → List (Call V × Reply V) → Type 0) (aborts : E → List (Call V × Reply V) → Type 0) (n : ℕ)
    (t : TxTable V) (s u : TxSeat V) (tally : Tally) where
  pub store_one : (r : Result (A × Record V) (Failure E)) (d : StoreShown V) → store_at n t (Some s) tally ≡ d
      → EndsAs makes aborts s.seat u.seat r → IfOk r (λ done. (a : ℕ) × ((view u.seat).receipts ≡ d.receipts ++ (a, done.1) ∷ []))
  store_one (Ok done) d v h = (
    actor s.seat,
    subst (λ (x : StoreShown V). (view u.seat).receipts ≡ x.receipts ++ (actor s.seat, done.1) ∷ []) v
        (gained makes aborts s.seat u.seat (Ok done) h).0.gains,
  )
  store_one (Err failure) d v h = tt

  pub store_none : (r : Result (A × Record V) (Failure E)) (d : StoreShown V) → store_at n t (Some s) tally ≡ d
      → EndsAs makes aborts s.seat u.seat r → OnErr r (((view u.seat).receipts ≡ d.receipts) × (u.seat.last ≡ d.last))
  store_none (Ok done) d v h = tt
  store_none (Err failure) d v h =
      let none = gained_none makes aborts s.seat u.seat (Err failure) h in
      (none.receipts ∙ ap (λ (x : StoreShown V). x.receipts) v, none.last ∙ ap (λ (x : StoreShown V). x.last) v)

  pub store_last : (r : Result (A × Record V) (Failure E)) (d : StoreShown V) → store_at n t (Some s) tally ≡ d
      → EndsAs makes aborts s.seat u.seat r → IfOk r (λ done. (d.last ≤ done.1.number) × (u.seat.last ≡ done.1.number))
  store_last (Ok done) d v h = (
    subst (λ (x : StoreShown V). x.last ≤ done.1.number) v (gained makes aborts s.seat u.seat (Ok done) h).0.above,
    (gained makes aborts s.seat u.seat (Ok done) h).0.last,
  )
  store_last (Err failure) d v h = tt

-- a run that is refused leaves the store as it was
pub run_none : {V A E : Type 0} (r : Result A E) (n : ℕ) (t : TxTable V) (s u : TxSeat V) (tally : Tally) (d : StoreShown V)
    → store_at n t (Some s) tally ≡ d → OnErr r (HasLeft 0 s.seat u.seat) → OnErr r (store_at n t (Some u) tally ≡ d)
run_none (Ok a) n t s u tally d v h = tt
run_none (Err e) n t s u tally d v h = store_same n t s u tally h.receipts h.last h.asked ∙ v
