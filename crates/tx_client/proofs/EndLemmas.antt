-- How attempts end, one after another.
use Rattle.std.proofs.Common.{◌≡◌, ◌≤◌, List, Ok, Err, refl, sym, ap, ◌∙◌, subst}
use Rattle.std.specs.Prelude.{IfErr, IfOk, OnErr, Result}
use Rattle.seq_model.specs.declared.call.Call.{Call}
use Rattle.seq_model.specs.declared.call.Reply.{Reply}
use Rattle.seq_model.specs.declared.record.Record.{Record}
use Rattle.seq_model.specs.declared.refusal.Refusal.{Refusal}
use Rattle.replay_log.specs.Seats.{World}
use Rattle.shared_table.specs.declared.seat.Seat.{Seat}
use Rattle.shared_table.specs.declared.table.TxTable.{TxTable}
use Rattle.shared_table.specs.Seated.{opening_of}
use Rattle.tx_engine.specs.declared.seats.TxSeat.{TxSeat}
use Rattle.tx_engine.specs.Ready.{HasFinished}
use Rattle.tx_engine.specs.Requests.{KeepsReceipts}
use Rattle.seq_model.specs.declared.failure.Failure.{Failure}
use Rattle.seq_model.specs.declared.failure.Failure.TheVariants.{Refused, Aborted}
use Rattle.tx_client.specs.Frames.{calls_made, calls_of}
use Rattle.tx_client.specs.Ends.{EndsAs, HasGained, HasGainedNone, IsAbortBy}

-- a fact of what was returned
pub ok_then : {A E : Type 0} {P Q : A → Type 0} → (r : Result A E) → ((v : A) → P v → Q v) → IfOk r P → IfOk r Q
ok_then (Ok v) f h = f v h
ok_then (Err e) f h = tt

module _ {V : Type 0} where
  pub gains_none : (s u : Seat V) → KeepsReceipts s u → HasGainedNone s u
  gains_none s u k = record { same = k.seat.1; shares = k.shares; receipts = k.receipts; last = k.seat.2 }

  none_since : (s m u : Seat V) → KeepsReceipts s m → HasGainedNone m u → HasGainedNone s u
  none_since s m u k h = record {
    same = h.same ∙ k.seat.1;
    shares = h.shares ∙ k.shares;
    receipts = h.receipts ∙ k.receipts;
    last = h.last ∙ k.seat.2;
  }

  -- the transaction has committed, after what the body gave and by the calls that were made
  pub committed : {A E : Type 0} (t : TxTable V) (s u : TxSeat V) (out : A) (r : Record V) (gave : Result A E) → Ok out ≡ gave
      → HasFinished t s u (Ok r)
      → EndsAs (λ out calls. (Ok out ≡ gave) × (calls ≡ calls_made (opening_of t) s.seat))
      (λ e calls. (Err e ≡ gave) × (calls ≡ calls_made (opening_of t) s.seat)) s.seat u.seat (Ok (out, r))
  unfolding EndsAs
  committed t s u out r gave is has = (
    record {
      same = has.commits.committed.seat.1;
      shares = has.commits.committed.shares;
      gains = has.commits.committed.receipts;
      above = has.last.0;
      last = has.last.1;
    },
    (is, sym (ap calls_of has.commits.calls)),
  )

  module _ {A E : Type 0} (makes : A → List (Call V × Reply V) → Type 0) (aborts : E → List (Call V × Reply V) → Type 0) where
    -- a refusal
    pub refused : (s u : Seat V) (cause : Refusal) → KeepsReceipts s u → EndsAs makes aborts s u (Err (Refused cause))
    unfolding EndsAs
    refused s u cause k = (gains_none s u k, tt)

    -- a body that aborted
    pub aborted : (s u : Seat V) (e : E) (calls : List (Call V × Reply V)) → KeepsReceipts s u → aborts e calls
        → EndsAs makes aborts s u (Err (Aborted e))
    unfolding EndsAs
    aborted s u e calls k h = (gains_none s u k, (calls, h))

    -- the transaction began, and its calls were made, from s to m, and it ended from m to u
    pub attempted : (o : World V) (s m u : Seat V) (gave : Result A E) (r : Result (A × Record V) (Failure E))
        → KeepsReceipts s m → IfOk gave (λ out. makes out (calls_made o m)) → IfErr gave (λ e. aborts e (calls_made o m))
        → EndsAs (λ out calls. (Ok out ≡ gave) × (calls ≡ calls_made o m)) (λ e calls. (Err e ≡ gave) × (calls ≡ calls_made o m)) m u r
        → EndsAs makes aborts s u r
    unfolding EndsAs
    attempted o s m u gave (Err (Refused cause)) k made fails ends = (none_since s m u k ends.0, tt)
    attempted o s m u gave (Err (Aborted e)) k made fails ends = (
      none_since s m u k ends.0,
      (
        calls_made o m,
        subst (λ (g : Result A E). IfErr g (λ x. aborts x (calls_made o m))) (sym ends.1.1.0) fails,
      ),
    )
    attempted o s m u gave (Ok done) k made fails ends = (
      record {
        same = ends.0.same ∙ k.seat.1;
        shares = ends.0.shares ∙ k.shares;
        gains = rw (ends.0.gains, k.receipts, k.seat.1) refl;
        above = subst (λ n. n ≤ done.1.number) k.seat.2 ends.0.above;
        last = ends.0.last;
      },
      (
          let at : makes done.0 (calls_made o m) =
          subst (λ (g : Result A E). IfOk g (λ out. makes out (calls_made o m))) (sym ends.1.0) made in
          subst (makes done.0) (sym ends.1.1) at
          ),
    )

    -- an attempt in vain, and then another
    pub then_ends : (s m u : Seat V) (r : Result (A × Record V) (Failure E))
        → HasGainedNone s m → EndsAs makes aborts m u r → EndsAs makes aborts s u r
    unfolding EndsAs
    then_ends s m u (Err failure) k ends = (
      record {
        same = ends.0.same ∙ k.same;
        shares = ends.0.shares ∙ k.shares;
        receipts = ends.0.receipts ∙ k.receipts;
        last = ends.0.last ∙ k.last;
      },
      ends.1,
    )
    then_ends s m u (Ok done) k ends = (
      record {
        same = ends.0.same ∙ k.same;
        shares = ends.0.shares ∙ k.shares;
        gains = rw (ends.0.gains, k.receipts, k.same) refl;
        above = subst (λ n. n ≤ done.1.number) k.last ends.0.above;
        last = ends.0.last;
      },
      ends.1,
    )

    -- the result of an attempt, by its cases
    pub gained : (s u : Seat V) (r : Result (A × Record V) (Failure E)) → EndsAs makes aborts s u r
        → IfOk r (λ done. HasGained s u done.1 × makes done.0 done.1.calls)
    unfolding EndsAs
    gained s u (Ok done) h = h
    gained s u (Err failure) h = tt

    pub gained_none : (s u : Seat V) (r : Result (A × Record V) (Failure E)) → EndsAs makes aborts s u r → OnErr r (HasGainedNone s u)
    unfolding EndsAs
    gained_none s u (Ok done) h = tt
    gained_none s u (Err failure) h = h.0

    pub is_abort : (s u : Seat V) (r : Result (A × Record V) (Failure E)) → EndsAs makes aborts s u r → IfErr r (IsAbortBy aborts)
    unfolding EndsAs
    is_abort s u (Ok done) h = tt
    is_abort s u (Err failure) h = h.1
