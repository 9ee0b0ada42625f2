-- What an actor was asked, one request after another.
use Rattle.std.proofs.Common.{◌≡◌, ◌⊎◌, List, [], ◌∷◌, ◌++◌, Bool, true, false, inl, inr, refl, sym, ap, ◌∙◌}
use Rattle.std.specs.Prelude.{Result}
use Rattle.std.proofs.lemmas.List.{append-nil, append_assoc}
use Rattle.seq_model.specs.declared.event.Request.{Request}
use Rattle.seq_model.specs.declared.event.Request.TheVariants as request
use Rattle.seq_model.specs.declared.refusal.Refusal.{Refusal}
use Rattle.replay_log.specs.Seats.{World}
use Rattle.actor_laws.specs.KnownStages.{Rests}
use Rattle.shared_table.specs.declared.seat.Seat.{Seat}
use Rattle.tx_turns.specs.RequestHistory.{requests_of}
use Rattle.seq_model.specs.declared.record.Record.{Record}
use Rattle.shared_table.specs.declared.table.TxTable.{TxTable}
use Rattle.shared_table.specs.Seated.{opening_of}
use Rattle.tx_engine.specs.declared.seats.TxSeat.{TxSeat}
use Rattle.tx_engine.specs.Ready.{HasFinished, standing}
use Rattle.tx_engine.specs.Requests.{HasAskedFor, HasAskedToBegin, IsOpen, begin_request}
use Rattle.tx_client.specs.RequestKinds.{AreOf, HasAsked, IsOf}

module _ {V : Type 0} (d : Bool) where
  are_then : (ps qs : List (Request V)) → AreOf d ps → AreOf d qs → AreOf d (ps ++ qs)
  are_then [] qs h k = k
  are_then (p ∷ ps) qs h k = (h.0, are_then ps qs h.1 k)

  pub asks_none : (qs ps : List (Request V)) → ps ≡ qs → HasAsked d qs ps
  asks_none qs ps e = record { more = []; is = e ∙ sym (append-nil qs); are = tt }

  pub then_asks : (ps qs rs : List (Request V)) → HasAsked d ps qs → HasAsked d qs rs → HasAsked d ps rs
  then_asks ps qs rs h k = record {
    more = h.more ++ k.more;
    is = k.is ∙ (ap (λ (l : List (Request V)). l ++ k.more) h.is ∙ append_assoc ps h.more k.more);
    are = are_then h.more k.more h.are k.are;
  }

  -- this request, or in its place an abort
  pub asks_for : {A : Type 0} (s u : Seat V) (q : Request V) (r : Result A Refusal) → IsOf d q → HasAskedFor s q r u
      → HasAsked d (requests_of s) (requests_of u)
  unfolding HasAskedFor
  asks_for s u q r h (inl e) = record { more = q ∷ []; is = e; are = (h, tt) }
  asks_for s u q r h (inr e) = record { more = request.Abort ∷ []; is = e.1; are = (tt, tt) }

is_begin : (W : Type 0) (d : Bool) → IsOf {V = W} d (begin_request {V = W} d)
is_begin W true = refl
is_begin W false = refl

module _ {V : Type 0} where
  pub asks_to_begin : (d : Bool) (o : World V) (s u : Seat V) → (standing o s ≡ Rests) ⊎ IsOpen o s → HasAskedToBegin d o s u
      → HasAsked d (requests_of s) (requests_of u)
  unfolding HasAskedToBegin
  asks_to_begin d o s u (inl rests) h = record { more = begin_request d ∷ []; is = h.1 rests; are = (is_begin V d, tt) }
  asks_to_begin d o s u (inr at) h =
      record { more = request.Abort ∷ begin_request d ∷ []; is = h.0 at; are = (tt, (is_begin V d, tt)) }

  -- a commit asks for itself alone, where there is a transaction
  pub finish_asks : (d : Bool) (t : TxTable V) (s u : TxSeat V) (r : Result (Record V) Refusal)
      → (standing (opening_of t) s.seat ≡ Rests) ⊎ IsOpen (opening_of t) s.seat → HasFinished t s u r
      → HasAsked d (requests_of s.seat) (requests_of u.seat)
  finish_asks d t s u r (inl rests) has = asks_none d _ _ (ap (λ (v : TxSeat V). requests_of v.seat) (has.none rests).1)
  finish_asks d t s u r (inr at) has = asks_for d s.seat u.seat request.Commit r tt (has.asks at)

  -- and so does an abort
  pub abort_asks : (d : Bool) (o : World V) (s u : TxSeat V) → (standing o s.seat ≡ Rests) ⊎ IsOpen o s.seat
      → (standing o s.seat ≡ Rests → u ≡ s) → (IsOpen o s.seat → requests_of u.seat ≡ requests_of s.seat ++ request.Abort ∷ [])
      → HasAsked d (requests_of s.seat) (requests_of u.seat)
  abort_asks d o s u (inl rests) none asks = asks_none d _ _ (ap (λ (v : TxSeat V). requests_of v.seat) (none rests))
  abort_asks d o s u (inr at) none asks = record { more = request.Abort ∷ []; is = asks at; are = (tt, tt) }
