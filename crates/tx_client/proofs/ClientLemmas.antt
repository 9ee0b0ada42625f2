-- What a client has of the attempts of a body.
use Rattle.std.proofs.Common.{◌≡◌, ℕ, ◌<◌, ◌≤◌, List, [], ◌∷◌, ◌++◌, Option, Some, Ok, Err, refl, sym, ap, ◌∙◌, subst, arith}
use Rattle.std.proofs.lemmas.List.{append-nil}
use Rattle.std.proofs.lemmas.List.Elements.{All-cons, All-nil}
use Rattle.std.specs.Prelude.{IfErr, IfOk, IfSome, OnErr, OnOk, Result, max}
use Rattle.seq_model.specs.declared.call.Call.{Call}
use Rattle.seq_model.specs.declared.call.Reply.{Reply}
use Rattle.seq_model.specs.declared.record.Record.{Record}
use Rattle.seq_model.specs.declared.refusal.Refusal.{Refusal}
use Rattle.seq_model.specs.declared.refusal.Refusal.TheVariants.{Ahead}
use Rattle.replay_log.specs.Seats.{World}
use Rattle.shared_table.specs.declared.seat.Seat.{Seat}
use Rattle.shared_table.specs.declared.table.TxTable.{TxTable}
use Rattle.shared_table.specs.Seated.{actor, view}
use Rattle.tx_engine.specs.declared.seats.TxSeat.{TxSeat}
use Rattle.tx_engine.specs.Ready.{IsReady}
use Rattle.tx_engine.specs.Requests.{OnlyKnows}
use Rattle.tx_client.specs.Clients.{IsAtClient, shown, shown_at}
use Rattle.tx_client.specs.Ends.{ClientShown, EndsAs}
use Rattle.tx_client.specs.Frames.{Frame, GoesOn, HasGrown, IsOfSeat, later}
use Rattle.seq_model.specs.declared.failure.Failure.{Failure}
use Rattle.tx_client.specs.declared.tally.Tally.{Tally}
use Rattle.tx_client.proofs.EndLemmas.{gained, gained_none}
use Rattle.tx_client.proofs.FrameLemmas.{at_client, grown_back, grown_on, more_later, of_seat_on, own_is}

-- a clock below the number
pub some_clock : {A : Type 0} (r : Result A Refusal) (clock number : ℕ) → IfErr r (λ cause. (cause ≡ Ahead clock) × (clock < number))
    → IfErr r (λ cause. (c : ℕ) × ((cause ≡ Ahead c) × (c < number)))
some_clock (Ok a) clock number h = tt
some_clock (Err cause) clock number h = (clock, h)

module _ {V : Type 0} where
  -- the seat of a client, and the client that it is with another
  pub client_on : (f : Option (Frame V)) (t : TxTable V) (seat : Option (TxSeat V)) (s u : TxSeat V) → IsAtClient f t seat
      → seat ≡ Some s → IsReady t u → GoesOn s.seat u.seat → (HasGrown f s.seat → HasGrown f u.seat) → IsAtClient f t (Some u)
  client_on f t seat s u h e ready goes grown =
      at_client f t u ready
      (of_seat_on f t s u (subst (λ (x : TxSeat V). IfSome f (IsOfSeat t x)) (own_is seat h.own s h.is e) h.client.framed) goes)
      (grown (grown_back f t seat s h e))

  pub shows_as : (f : Option (Frame V)) (seat : Option (TxSeat V)) (s : TxSeat V) (tally : Tally) (d : ClientShown V)
      → shown_at f seat tally ≡ d → seat ≡ Some s → shown f s.seat tally ≡ d
  shows_as f seat s tally d v e = subst (λ (x : Option (TxSeat V)). shown_at f x tally ≡ d) e v

  -- a seat with the same receipts
  pub grown_same : (f : Option (Frame V)) (s u : Seat V) → actor u ≡ actor s → (view u).receipts ≡ (view s).receipts → HasGrown f s
      → HasGrown f u
  grown_same f s u same e h =
      grown_on f s u [] h same (All-nil (λ (r : ℕ × Record V). r.0 ≡ actor s)) (e ∙ sym (append-nil (view s).receipts))

  -- what is learnt keeps the client
  pub learn_goes : (o : World V) (s u : Seat V) (number : ℕ) (r : Result (Unit {0}) Refusal) → OnlyKnows o s u
      → OnOk r (u.last ≡ max s.last number) → OnErr r (u.last ≡ s.last) → GoesOn s u
  learn_goes o s u number (Ok done) k learns none = record { same = k.seat.1; shares = k.shares; last = omega (arith, learns) }
  learn_goes o s u number (Err cause) k learns none = record { same = k.seat.1; shares = k.shares; last = omega (arith, none) }

  pub learn_grown : (f : Option (Frame V)) (o : World V) (s u : Seat V) → OnlyKnows o s u → HasGrown f s → HasGrown f u
  learn_grown f o s u k = grown_same f s u k.seat.1 k.receipts

  module _ {A E : Type 0} (makes : A → List (Call V × Reply V) → Type 0) (aborts : E → List (Call V × Reply V) → Type 0) (s u : Seat V)
    where
      pub ends_same : (r : Result (A × Record V) (Failure E)) → EndsAs makes aborts s u r → actor u ≡ actor s
      ends_same (Ok done) h = (gained makes aborts s u (Ok done) h).0.same
      ends_same (Err failure) h = (gained_none makes aborts s u (Err failure) h).same

      pub ends_goes : (r : Result (A × Record V) (Failure E)) → EndsAs makes aborts s u r → GoesOn s u
      ends_goes (Ok done) h =
          let g = (gained makes aborts s u (Ok done) h).0 in
          let above = g.above in
          let last = g.last in
          record { same = g.same; shares = g.shares; last = omega (arith, above, last) }
      ends_goes (Err failure) h =
          let g = gained_none makes aborts s u (Err failure) h in
          let last = g.last in
          record { same = g.same; shares = g.shares; last = omega (arith, last) }

      -- the receipts that were gained are the own actor's
      pub ends_grown : (f : Option (Frame V)) (r : Result (A × Record V) (Failure E)) → EndsAs makes aborts s u r → HasGrown f s
          → HasGrown f u
      ends_grown f (Ok done) h k =
          let g = (gained makes aborts s u (Ok done) h).0 in
          let Own = λ (x : ℕ × Record V). x.0 ≡ actor s in
          grown_on f s u ((actor s, done.1) ∷ []) k g.same (All-cons Own (actor s, done.1) [] refl (All-nil Own)) g.gains
      ends_grown f (Err failure) h k =
          let g = gained_none makes aborts s u (Err failure) h in
          grown_same f s u g.same g.receipts k

      pub ends_made : (r : Result (A × Record V) (Failure E)) → EndsAs makes aborts s u r → IfOk r (λ done. makes done.0 done.1.calls)
      ends_made (Ok done) h = (gained makes aborts s u (Ok done) h).1
      ends_made (Err failure) h = tt

      pub ends_one : (f : Option (Frame V)) (r : Result (A × Record V) (Failure E)) (tally : Tally) (d : ClientShown V) → HasGrown f s
          → shown f s tally ≡ d → EndsAs makes aborts s u r
          → IfOk r (λ done. later f (view u).receipts ≡ d.receipts ++ (d.actor, done.1) ∷ [])
      ends_one f (Ok done) tally d k v h =
          subst (λ (x : ClientShown V). later f (view u).receipts ≡ x.receipts ++ (x.actor, done.1) ∷ []) v
          (more_later f s u ((actor s, done.1) ∷ []) k (gained makes aborts s u (Ok done) h).0.gains)
      ends_one f (Err failure) tally d k v h = tt

      pub ends_last : (f : Option (Frame V)) (r : Result (A × Record V) (Failure E)) (tally : Tally) (d : ClientShown V)
          → shown f s tally ≡ d → EndsAs makes aborts s u r → IfOk r (λ done. (d.last ≤ done.1.number) × (u.last ≡ done.1.number))
      ends_last f (Ok done) tally d v h = (
        subst (λ (x : ClientShown V). x.last ≤ done.1.number) v (gained makes aborts s u (Ok done) h).0.above,
        (gained makes aborts s u (Ok done) h).0.last,
      )
      ends_last f (Err failure) tally d v h = tt

      pub ends_none : (f : Option (Frame V)) (r : Result (A × Record V) (Failure E)) (tally : Tally) (d : ClientShown V)
          → shown f s tally ≡ d → EndsAs makes aborts s u r → OnErr r ((later f (view u).receipts ≡ d.receipts) × (u.last ≡ d.last))
      ends_none f (Ok done) tally d v h = tt
      ends_none f (Err failure) tally d v h =
          let none = gained_none makes aborts s u (Err failure) h in (
            ap (later f) none.receipts ∙ ap (λ (x : ClientShown V). x.receipts) v,
            none.last ∙ ap (λ (x : ClientShown V). x.last) v,
          )
