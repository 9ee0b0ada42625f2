-- Attempts of a job, one after another.
-- What is known after so many attempts in vain is how the last one ended, and that the seat has gained nothing. The next one ends them all:
-- with a receipt, which the seat then has beyond those that it had before the first, or as the last one.
use Rattle.std.proofs.Common.{◌≡◌, ◌⊎◌, ℕ, ◌+◌, ◌<◌, ◌≤◌, List, [], ◌∷◌, ◌++◌, length, length-append, Result, Ok, Err, inl, inr}
use Rattle.std.proofs.Common.{refl, ap, ◌∙◌, subst, arith}
use Rattle.seq_model.specs.declared.call.Reply.{Reply}
use Rattle.seq_model.specs.declared.record.Record.{Record}
use Rattle.seq_model.specs.declared.refusal.Refusal.{Refusal}
use Rattle.replay_log.specs.Seats.{Ended}
use Rattle.seq_model.specs.declared.job.Ask.{Ask}
use Rattle.shared_table.specs.declared.seat.Seat.{Seat}
use Rattle.shared_table.specs.declared.table.TxTable.{TxTable}
use Rattle.shared_table.specs.Seated.{actor, opening_of, view}
use Rattle.actor_laws.specs.KnownStages.{Rests}
use Rattle.tx_engine.specs.Ready.{standing}
use Rattle.tx_engine.specs.Requests.{KeepsReceipts}
use Rattle.tx_engine.proofs.RequestLemmas.{then_keeps}
use Rattle.tx_engine.proofs.AttemptLemmas.{keeps_self}
use Rattle.tx_engine.proofs.GainLemmas.{aborts_then, refused_gains}
use Rattle.tx_engine.specs.Attempts.{Aborts, AttemptsTo}
use Rattle.tx_engine.specs.declared.attempts.Attempt.{Attempt}
use Rattle.tx_engine.specs.declared.attempts.Attempt.TheVariants.{Committed, GivenUp}
use Rattle.seq_model.specs.declared.causes.LastAbort.{LastAbort}
use Rattle.seq_model.specs.declared.causes.LastAbort.TheVariants as last
use Rattle.tx_engine.specs.Retries.{AreInVain, ComesAfter, HasNoReceipt, HasReceipt, IsTransient}

module _ {V : Type 0} (asks : List (Reply V) → Ask V → Type 0) (t : TxTable V) where
  -- There is no transaction, and so many were aborted since s, beside the one that was open there.
  abbrev GainsEach : ℕ → Seat V → Seat V → Type 0
  GainsEach n s m =
      (standing (opening_of t) m ≡ Rests) × ((es : List (Ended V)) × (length es ≡ n) × Aborts (opening_of t) s m es)

  -- so many attempts were in vain
  pub record InVain (n : ℕ) (s m : Seat V) : Type 0 where
    pub causes : List Refusal
    pub many : length causes ≡ n
    pub vain : AreInVain asks t s causes m
    pub keeps : KeepsReceipts s m
    pub gains : ((n ≡ 0) × (m ≡ s)) ⊎ GainsEach n s m

  pub none_yet : (s : Seat V) → InVain 0 s s
  none_yet s = record { causes = []; many = refl; vain = refl; keeps = keeps_self s; gains = inl (refl, refl) }

  -- one more was
  gains_one : (n : ℕ) (s m u : Seat V) (e : Ended V) → standing (opening_of t) u ≡ Rests → Aborts (opening_of t) m u (e ∷ [])
      → ((n ≡ 0) × (m ≡ s)) ⊎ GainsEach n s m → GainsEach (n + 1) s u
  gains_one n s m u e rests one (inl none) =
      let zero = none.0 in
      (rests, (e ∷ [], omega (arith, zero), subst (λ (k : Seat V). Aborts (opening_of t) k u (e ∷ [])) none.1 one))
  gains_one n s m u e rests one (inr each) = (
    rests,
    (
      each.1.0 ++ e ∷ [],
      length-append each.1.0 (e ∷ []) ∙ ap (λ (k : ℕ). k + 1) each.1.1,
      aborts_then (opening_of t) s m u each.1.0 (e ∷ []) each.1.2 (one.1 each.0),
    ),
  )

  pub one_more : (n : ℕ) (s m u : Seat V) (cause : Refusal) → InVain n s m → IsTransient cause
      → standing (opening_of t) u ≡ Rests → AttemptsTo asks (opening_of t) m u (Err cause) → InVain (n + 1) s u
  one_more n s m u cause h transient rests comes =
      let one = refused_gains (opening_of t) m u asks cause (λ h. subst (λ (k : Refusal). IsTransient k) h.2 transient) comes.0.1 in
      record {
        causes = cause ∷ h.causes;
        many = (let k = h.many in omega arith);
        vain = (m, h.vain, comes, transient);
        keeps = then_keeps s m u h.keeps comes.0.0;
        gains = inr (gains_one n s m u one.0 rests one.1 h.gains);
      }

  -- and this was the result of the next one
  comes_after : (n : ℕ) (s m u : Seat V) (r : Result (Attempt V) Refusal) → InVain n s m → AttemptsTo asks (opening_of t) m u r
      → ComesAfter asks t n s m u r
  comes_after n s m u r h comes =
      record { causes = h.causes; many = h.many; vain = h.vain; gains = each h.gains; comes = comes }
    where
      each : ((n ≡ 0) × (m ≡ s)) ⊎ GainsEach n s m → 0 < n → (es : List (Ended V)) × (length es ≡ n) × Aborts (opening_of t) s m es
      each (inl none) some = absurd (let zero = none.0 in omega (arith, zero, some))
      each (inr h) some = h.1

  -- a refusal that is the last
  pub refused_last : (n tries : ℕ) (s m u : Seat V) (cause : Refusal) → n < tries → InVain n s m
      → (IsTransient cause → n + 1 ≡ tries) → AttemptsTo asks (opening_of t) m u (Err cause)
      → HasNoReceipt asks t tries s u (last.Refused cause)
  refused_last n tries s m u cause few h all comes = record {
    keeps = then_keeps s m u h.keeps comes.0.0;
    ends = record {
      before = n;
      few = few;
      all = all;
      at = m;
      last = comes_after n s m u (Err cause) h comes;
    };
  }

  -- all that are to be
  pub all_in_vain : (n tries : ℕ) (s u : Seat V) (cause : LastAbort) → n ≡ tries → 1 ≤ tries
      → (n ≡ 0) ⊎ HasNoReceipt asks t n s u cause → HasNoReceipt asks t tries s u cause
  all_in_vain n tries s u cause e some (inl none) = absurd (omega arith)
  all_in_vain n tries s u cause e some (inr h) = subst (λ (k : ℕ). HasNoReceipt asks t k s u cause) e h

  pub gives_up : (n tries : ℕ) (s m u : Seat V) → n < tries → InVain n s m → AttemptsTo asks (opening_of t) m u (Ok GivenUp)
      → HasNoReceipt asks t tries s u last.GivenUp
  gives_up n tries s m u few h comes = record {
    keeps = then_keeps s m u h.keeps comes.0.keeps;
    ends = record {
      before = n;
      few = few;
      at = m;
      last = comes_after n s m u (Ok GivenUp) h comes;
    };
  }

  pub has_receipt : (n tries : ℕ) (s m u : Seat V) (r : Record V) → n < tries → InVain n s m
      → AttemptsTo asks (opening_of t) m u (Ok (Committed r)) → HasReceipt asks t tries s u r
  has_receipt n tries s m u r few h comes =
      let low = comes.0.last.0 in
      let same : m.last ≡ s.last = h.keeps.seat.2 in
      record {
        job = comes.0.job;
        same = comes.0.committed.seat.1 ∙ (comes.0.at.keeps.seat.1 ∙ h.keeps.seat.1);
        gains = comes.0.gains ∙ (ap (λ (e : List (ℕ × Record V)). e ++ (actor m, r) ∷ []) h.keeps.receipts
            ∙ ap (λ (a : ℕ). (view s).receipts ++ (a, r) ∷ []) h.keeps.seat.1);
        shares = comes.0.shares ∙ h.keeps.shares;
        joined = comes.0.joined ∙ h.keeps.joined;
        number = (omega (arith, low, same), comes.0.last.1);
        before = n;
        few = few;
        at = m;
        last = comes_after n s m u (Ok (Committed r)) h comes;
      }
