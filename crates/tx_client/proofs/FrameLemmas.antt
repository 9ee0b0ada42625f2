-- Calls of a transaction, by the frame that its scope knows.
use Rattle.std.proofs.Common.{◌≡◌, ◌⊎◌, ℕ, Bool, true, List, [], ◌∷◌, ◌++◌, Option, Some}
use Rattle.std.proofs.Common.{None, Ok, Err, inl, inr, refl, sym, ap, ◌∙◌, subst, arith}
use Rattle.std.specs.Prelude.{IfSome, Result}
use Rattle.std.proofs.lemmas.List.{append-nil, append_assoc}
use Rattle.std.proofs.lemmas.List.Elements.{All-append, All-nil}
use Rattle.std.proofs.lemmas.List.Prefix.{front_rest}
use Rattle.seq_model.specs.declared.call.Call.{Call}
use Rattle.seq_model.specs.declared.call.Op.{Op}
use Rattle.seq_model.specs.declared.call.Reply.{Reply}
use Rattle.seq_model.specs.declared.record.Record.{Record}
use Rattle.seq_model.specs.declared.event.Request.TheVariants as request
use Rattle.tx_turns.specs.Driven.{is_declared}
use Rattle.tx_turns.specs.RequestHistory.{requests_of}
use Rattle.seq_model.specs.declared.refusal.Refusal.{Refusal}
use Rattle.replay_log.specs.Seats.{World}
use Rattle.actor_laws.specs.KnownStages.{Rests}
use Rattle.shared_table.specs.declared.seat.Seat.{Seat}
use Rattle.shared_table.specs.declared.table.TxTable.{TxTable}
use Rattle.shared_table.specs.Seated.{actor, opening_of, view}
use Rattle.tx_engine.specs.declared.seats.TxSeat.{TxSeat}
use Rattle.tx_engine.specs.Ready.{HasBegunSince, HasCalled, IsReady, standing}
use Rattle.tx_engine.specs.Requests.{IsOpen, KeepsReceipts}
use Rattle.tx_engine.proofs.RequestLemmas.{keeps_self, then_keeps}
use Rattle.tx_client.specs.Frames.{AreBy, ComesBack, Frame, GoesOn, HasGrown, HasMadeCalls, IsClient}
use Rattle.tx_client.specs.Frames.{IsIn, IsOfSeat, IsUnderWay, calls_made, calls_of, earlier, later, transaction_at}
use Rattle.tx_handles.specs.MadeCall.{TransactionShown, with_call}
use Rattle.tx_client.specs.RequestKinds.{HasAsked}
use Rattle.tx_client.specs.Clients.{IsAtClient}
use Rattle.tx_client.proofs.RequestKindLemmas.{asks_for, asks_none, then_asks}

ok_is_no_err : {A E : Type 0} (a : A) (e : E) → Ok a ≡ Err e → ⊥
ok_is_no_err a e h = cc

module _ {V : Type 0} where
  -- a call keeps the receipts
  pub call_keeps : (t : TxTable V) (s u : TxSeat V) (call : Call V) (r : Result (Reply V) Refusal)
      → (standing (opening_of t) s.seat ≡ Rests) ⊎ IsOpen (opening_of t) s.seat → HasCalled t s u call r → KeepsReceipts s.seat u.seat
  call_keeps t s u call r (inl rests) has = subst (λ (v : TxSeat V). KeepsReceipts s.seat v.seat) (sym (has.none rests).1)
      (keeps_self s.seat)
  call_keeps t s u call r (inr at) has = (has.calls at).keeps

  -- and asks for itself alone
  pub call_asks : (d : Bool) (t : TxTable V) (s u : TxSeat V) (call : Call V) (r : Result (Reply V) Refusal)
      → (standing (opening_of t) s.seat ≡ Rests) ⊎ IsOpen (opening_of t) s.seat → HasCalled t s u call r
      → HasAsked d (requests_of s.seat) (requests_of u.seat)
  call_asks d t s u call r (inl rests) has = asks_none d _ _ (ap (λ (v : TxSeat V). requests_of v.seat) (has.none rests).1)
  call_asks d t s u call r (inr at) has = asks_for d s.seat u.seat (request.Call call) r tt (has.asks at)

  -- and a declared reader remains one
  call_reader : (t : TxTable V) (s u : TxSeat V) (call : Call V) (r : Result (Reply V) Refusal)
      → (standing (opening_of t) s.seat ≡ Rests) ⊎ IsOpen (opening_of t) s.seat → HasCalled t s u call r
      → is_declared (opening_of t) s.seat ≡ true → is_declared (opening_of t) u.seat ≡ true
  call_reader t s u call r (inl rests) has is =
      ap (λ (v : TxSeat V). is_declared (opening_of t) v.seat) (has.none rests).1 ∙ is
  call_reader t s u call r (inr at) has is = (has.calls at).reader is

  pub no_calls : (o : World V) (s : Seat V) → HasMadeCalls o s s
  no_calls o s = record { keeps = keeps_self s; asks = λ d. asks_none d _ _ refl; reader = λ is. is }

  then_calls : (o : World V) (m s u : Seat V) → HasMadeCalls o m s → HasMadeCalls o s u → HasMadeCalls o m u
  then_calls o m s u h k = record {
    keeps = then_keeps m s u h.keeps k.keeps;
    asks = λ d. then_asks d _ _ _ (h.asks d) (k.asks d);
    reader = λ is. k.reader (h.reader is);
  }

  since_on : (o : World V) (m : Option (TxSeat V)) (s u : Seat V) → IfSome m (λ b. HasMadeCalls o b.seat s) → HasMadeCalls o s u
      → IfSome m (λ b. HasMadeCalls o b.seat u)
  since_on o None s u h k = h
  since_on o (Some m) s u h k = then_calls o m.seat s u h k

  framed_on : (f : Option (Frame V)) (t : TxTable V) (s u : TxSeat V) → IfSome f (IsIn t s) → HasMadeCalls (opening_of t) s.seat u.seat
      → IfSome f (IsIn t u)
  framed_on None t s u h k = h
  framed_on (Some b) t s u h k = record {
    table = h.table;
    since = since_on (opening_of b.table) b.begun s.seat u.seat h.since
        (subst (λ (v : TxTable V). HasMadeCalls (opening_of v) s.seat u.seat) h.table k);
  }

  -- after a call, the transaction is under way
  pub called_on : (f : Option (Frame V)) (t : TxTable V) (s u : TxSeat V) (call : Call V) (r : Result (Reply V) Refusal)
      → IsUnderWay f t s → HasCalled t s u call r → IsUnderWay f t u
  called_on f t s u call r was has = record {
    ready = has.ready;
    since = has.since;
    framed = framed_on f t s u was.framed (record {
      keeps = call_keeps t s u call r was.ready.between has;
      asks = λ d. call_asks d t s u call r was.ready.between has;
      reader = call_reader t s u call r was.ready.between has;
    });
  }

  -- a call that is answered joins those that were made
  pub call_made : (t : TxTable V) (s u : TxSeat V) (call : Call V) (reply : Reply V)
      → (standing (opening_of t) s.seat ≡ Rests) ⊎ IsOpen (opening_of t) s.seat → HasCalled t s u call (Ok reply)
      → calls_made (opening_of t) u.seat ≡ calls_made (opening_of t) s.seat ++ (call, reply) ∷ []
  call_made t s u call reply (inl rests) has = absurd (ok_is_no_err _ _ (has.none rests).0)
  call_made t s u call reply (inr (calls, at)) has =
      ap calls_of ((has.calls (calls, at)).leaves calls at)
      ∙ ap (λ (made : List (Call V × Reply V)). made ++ (call, reply) ∷ []) (sym (ap calls_of at))

  -- and so contracts see it
  pub call_shown : (n : ℕ) (t : TxTable V) (s u : TxSeat V) (target : ℕ) (op : Op V) (reply : Reply V) (d : TransactionShown V)
      → (standing (opening_of t) s.seat ≡ Rests) ⊎ IsOpen (opening_of t) s.seat
      → HasCalled t s u (record { target = target; op = op }) (Ok reply) → transaction_at n (opening_of t) s.seat ≡ d
      → transaction_at n (opening_of t) u.seat ≡ with_call d target op reply
  call_shown n t s u target op reply d at has v =
      let made = call_made t s u (record { target = target; op = op }) reply at has in
      subst (λ (x : TransactionShown V). transaction_at n (opening_of t) u.seat ≡ with_call x target op reply) v
      (subst (λ (calls : List (Call V × Reply V)). transaction_at n (opening_of t) u.seat ≡ record { store = n; calls = calls }) made refl)

  -- what a frame says of a transaction
  pub in_frame : (f : Option (Frame V)) (t u : TxTable V) (m : TxSeat V) (s : TxSeat V)
      → f ≡ Some (record { table = t; begun = Some m }) → IsUnderWay f u s → (u ≡ t) × HasMadeCalls (opening_of t) m.seat s.seat
  in_frame f t u m s is h =
      let at : IfSome (Some (record { table = t; begun = Some m })) (IsIn u s) =
      subst (λ (g : Option (Frame V)). IfSome g (IsIn u s)) is h.framed in
      (at.table, at.since)

  pub begin_frame : (f : Option (Frame V)) (t : TxTable V) (s : TxSeat V)
      → f ≡ Some (record { table = t; begun = Some s }) → IsReady t s → HasBegunSince t s → IsUnderWay f t s
  begin_frame f t s is ready since = record {
    ready = ready;
    since = since;
    framed = subst (λ (g : Option (Frame V)). IfSome g (IsIn t s)) (sym is)
        (record { table = refl; since = no_calls (opening_of t) s.seat });
  }

  -- what comes after a client's receipts is the client's
  later_more : (f : Option (Frame V)) (rs xs : List (ℕ × Record V)) → rs ≡ earlier f ++ later f rs → later f (rs ++ xs) ≡ later f rs ++ xs
  later_more f rs xs h =
      front_rest (rs ++ xs) (earlier f) (later f rs ++ xs) (ap (λ ys. ys ++ xs) h ∙ append_assoc (earlier f) (later f rs) xs)

  pub more_later : (f : Option (Frame V)) (s u : Seat V) (xs : List (ℕ × Record V)) → HasGrown f s
      → (view u).receipts ≡ (view s).receipts ++ xs → later f (view u).receipts ≡ later f (view s).receipts ++ xs
  more_later f s u xs h e = ap (later f) e ∙ later_more f (view s).receipts xs h.gains

  -- a seat that has gained receipts of its actor
  pub grown_on : (f : Option (Frame V)) (s u : Seat V) (xs : List (ℕ × Record V)) → HasGrown f s → actor u ≡ actor s → AreBy (actor s) xs
      → (view u).receipts ≡ (view s).receipts ++ xs → HasGrown f u
  grown_on f s u xs h same own e =
      let more = more_later f s u xs h e in
      record {
        gains = e ∙ ap (λ ys. ys ++ xs) h.gains ∙ append_assoc (earlier f) (later f (view s).receipts) xs
            ∙ ap (λ ys. earlier f ++ ys) (sym more);
        own = subst (λ a. AreBy a (later f (view u).receipts)) (sym same)
            (subst (AreBy (actor s)) (sym more) (All-append (λ (r : ℕ × Record V). r.0 ≡ actor s) (later f (view s).receipts) xs h.own
            own));
      }

  -- one that begins
  pub none_later : (f : Option (Frame V)) (t : TxTable V) (s : TxSeat V) → f ≡ Some (record { table = t; begun = Some s })
      → later f (view s.seat).receipts ≡ []
  none_later f t s is =
      let rs = (view s.seat).receipts in
      ap (λ (g : Option (Frame V)). later g rs) is ∙ front_rest rs rs [] (sym (append-nil rs))

  grown_new : (f : Option (Frame V)) (t : TxTable V) (s : TxSeat V) → f ≡ Some (record { table = t; begun = Some s }) → HasGrown f s.seat
  grown_new f t s is =
      let rs = (view s.seat).receipts in
      let none = none_later f t s is in
      record {
        gains = sym (ap (λ ys. earlier f ++ ys) none ∙ append-nil (earlier f) ∙ ap earlier is);
        own = subst (AreBy (actor s.seat)) (sym none) (All-nil (λ (r : ℕ × Record V). r.0 ≡ actor s.seat));
      }

  -- a client by its seat
  pub at_client : (f : Option (Frame V)) (t : TxTable V) (s : TxSeat V) → IsReady t s → IfSome f (IsOfSeat t s) → HasGrown f s.seat
      → IsAtClient f t (Some s)
  at_client f t s ready framed grown =
      record { own = s; is = refl; client = record { ready = ready; framed = framed; grown = grown } }

  pub new_client : (f : Option (Frame V)) (t : TxTable V) (s : TxSeat V) → f ≡ Some (record { table = t; begun = Some s }) → IsReady t s
      → IsAtClient f t (Some s)
  new_client f t s is ready =
      at_client f t s ready
      (subst (λ (g : Option (Frame V)). IfSome g (IsOfSeat t s)) (sym is)
      (record { table = refl; since = record { same = refl; shares = refl; last = omega arith } }))
      (grown_new f t s is)

  pub goes_then : (m s u : Seat V) → GoesOn m s → GoesOn s u → GoesOn m u
  goes_then m s u h k =
      let before = h.last in
      let after = k.last in
      record { same = k.same ∙ h.same; shares = k.shares ∙ h.shares; last = omega (arith, before, after) }

  goes_on : (m : Option (TxSeat V)) (s u : Seat V) → IfSome m (λ b. GoesOn b.seat s) → GoesOn s u → IfSome m (λ b. GoesOn b.seat u)
  goes_on None s u h k = h
  goes_on (Some m) s u h k = goes_then m.seat s u h k

  pub of_seat_on : (f : Option (Frame V)) (t : TxTable V) (s u : TxSeat V) → IfSome f (IsOfSeat t s) → GoesOn s.seat u.seat
      → IfSome f (IsOfSeat t u)
  of_seat_on None t s u h k = h
  of_seat_on (Some b) t s u h k = record { table = h.table; since = goes_on b.begun s.seat u.seat h.since k }

  -- what is there is one
  pub own_is : (o : Option (TxSeat V)) (a s : TxSeat V) → o ≡ Some a → o ≡ Some s → a ≡ s
  own_is o a s p q = subst (λ (x : Option (TxSeat V)). IfSome x (λ y. a ≡ y)) (sym p ∙ q) refl

  -- its receipts are those that it had, and its own
  pub grown_back : (f : Option (Frame V)) (t : TxTable V) (seat : Option (TxSeat V)) (s : TxSeat V) → IsAtClient f t seat → seat ≡ Some s
      → HasGrown f s.seat
  grown_back f t seat s h e = subst (λ (x : TxSeat V). HasGrown f x.seat) (own_is seat h.own s h.is e) h.client.grown

  come_back : (f : Option (Frame V)) (t : TxTable V) (s : TxSeat V) → IsClient f t s → IfSome f (ComesBack s)
  come_back None t s h = tt
  come_back (Some b) t s h = record { ready = subst (λ (x : TxTable V). IsReady x s) h.framed.table h.ready; since = h.framed.since }

  -- what a client gives back
  pub gives_back : (f : Option (Frame V)) (t : TxTable V) (seat : Option (TxSeat V)) (s : TxSeat V) → IsAtClient f t seat → seat ≡ Some s
      → IfSome f (ComesBack s)
  gives_back f t seat s h e = come_back f t s (subst (IsClient f t) (own_is seat h.own s h.is e) h.client)

  pub in_hand : (f : Option (Frame V)) (t : TxTable V) (m s : TxSeat V) → f ≡ Some (record { table = t; begun = Some m })
      → IfSome f (ComesBack s) → IsReady t s × GoesOn m.seat s.seat
  in_hand f t m s is h =
      let at : IfSome (Some (record { table = t; begun = Some m })) (ComesBack s) =
      subst (λ (g : Option (Frame V)). IfSome g (ComesBack s)) is h in
      (at.ready, at.since)
