-- What an attempt adds to the aborted transactions of the world with its actor alone.
--
-- A begin adds the one that was open, and no other; a request that is answered adds none. So the transaction of the attempt is all that is
-- added after it: by the request that was refused, or by the abort after it.
use Rattle.std.proofs.Common.{◌≡◌, ◌⊎◌, List, [], ◌∷◌, ◌++◌, Option, Some, None, inl, inr, sym, ap, ◌∙◌, append-nil, subst}
use Rattle.std.proofs.lemmas.List.{append_assoc}
use Rattle.seq_model.specs.declared.call.Call.{Call}
use Rattle.seq_model.specs.declared.call.Reply.{Reply}
use Rattle.seq_model.specs.declared.refusal.Refusal.{Refusal}
use Rattle.replay_log.specs.Seats as worlds
use Rattle.replay_log.specs.Seats.{Ended, World}
use Rattle.seq_model.specs.declared.job.Ask.{Ask}
use Rattle.actor_laws.specs.KnownStages.{IsMistaken, Rests, Stands, known_stage_at}
use Rattle.shared_table.specs.Seated.{actor, acts}
use Rattle.shared_table.specs.declared.seat.Seat.{Seat}
use Rattle.tx_turns.specs.Driven.{IsExhausted, aborted_for, seat_in}
use Rattle.tx_engine.proofs.RequestLemmas.{then_keeps}
use Rattle.tx_engine.specs.Ready.{standing}
use Rattle.tx_engine.specs.Requests.{HasSameAborted, IsAbortedFor, IsEnded, IsLastAborted, IsOpen}
use Rattle.tx_engine.specs.Attempts.{Aborts, GainsAborted, GainsAbortedFor, IsCallRefused, IsRefusedOf, IsUnmade, calls_of}

module _ {V : Type 0} (o : World V) where
  -- ---- what is added first, and then
  pub aborts_first : (s u : Seat V) → (IsOpen o s → IsLastAborted o s u None) → (standing o s ≡ Rests → HasSameAborted o s u)
      → Aborts o s u []
  aborts_first s u noted same = (noted, λ rests. same rests ∙ sym (append-nil (acts o s).aborted))

  pub aborts_then : (s m u : Seat V) (es fs : List (Ended V)) → Aborts o s m es → (acts o u).aborted ≡ (acts o m).aborted ++ fs
      → Aborts o s u (es ++ fs)
  aborts_then s m u es fs h more = (
    λ opened. more
        ∙ (ap (λ (k : List (Ended V)). k ++ fs) (h.0 opened)
        ∙ append_assoc (acts o s).aborted (aborted_for o s None ∷ es) fs),
    λ rests. more ∙ (ap (λ (k : List (Ended V)). k ++ fs) (h.1 rests) ∙ append_assoc (acts o s).aborted es fs),
  )

  pub aborts_still : (s m u : Seat V) (es : List (Ended V)) → Aborts o s m es → HasSameAborted o m u → Aborts o s u es
  aborts_still s m u es h same = (λ opened. same ∙ h.0 opened, λ rests. same ∙ h.1 rests)

  -- ---- the last one
  stands_as : (cs calls : List (Call V × Reply V)) (st : worlds.Stage V) → known_stage_at cs st ≡ Stands calls → cs ≡ calls
  stands_as cs calls worlds.Open h = (let e : Stands cs ≡ Stands calls = h in cc)
  stands_as cs calls st h = absurd (let z : ⊥ = cc in z)

  -- from the seat s a begin led to b; at the seat m the transaction stood with these calls, and then it was aborted
  pub gains : (s b m u : Seat V) (calls : List (Call V × Reply V)) (cause : Option Refusal) → Aborts o s b [] → HasSameAborted o b m
      → actor m ≡ actor s → standing o m ≡ Stands calls → IsLastAborted o m u cause → GainsAborted o s u calls cause
  gains s b m u calls cause first same own stands last =
      let cs : (seat_in o m).calls ≡ calls = stands_as (seat_in o m).calls calls (seat_in o m).stage stands in
      record {
        number = (seat_in o m).rv;
        gained = aborts_then s m u [] (record { actor = actor s; rv = (seat_in o m).rv; calls = calls; cause = cause } ∷ [])
            (aborts_still s b m [] first same)
            (last ∙ (λ i. (acts o m).aborted ++ record { actor = own i; rv = (seat_in o m).rv; calls = cs i; cause = cause } ∷ []));
      }

  pub gains_for : (s b m u : Seat V) (calls : List (Call V × Reply V)) (cause : Refusal) → Aborts o s b [] → HasSameAborted o b m
      → actor m ≡ actor s → standing o m ≡ Stands calls → IsAbortedFor o m u cause → GainsAbortedFor o s u calls cause
  gains_for s b m u calls cause first same own stands (inl last) = inl (gains s b m u calls (Some cause) first same own stands last)
  gains_for s b m u calls cause first same own stands (inr memory) =
      inr (inr memory.0, gains s b m u calls None first same own stands memory.1)

  -- a call was refused, or there was no memory for the job, which left the seat m; what was open there was aborted then
  module _ (asks : List (Reply V) → Ask V → Type 0) (s b m u : Seat V) (cause : Refusal) (first : Aborts o s b [])
      (noted : IsOpen o m → IsLastAborted o m u None) (none : standing o m ≡ Rests → u ≡ m) where
    after_call : (k : IsCallRefused asks o (acts o b).aborted s m cause)
        → ((standing o m ≡ Stands k.calls) × IsMistaken cause) ⊎ IsEnded o k.before m cause → GainsAbortedFor o s u k.calls cause
    after_call k (inl left) =
        inr (
          inl left.1,
          gains s b m u k.calls None first (k.refused.same (k.calls, left.0) ∙ k.at.aborts)
              (then_keeps s k.before m k.at.keeps k.refused.keeps).seat.1 left.0 (noted (k.calls, left.0)),
        )
    after_call k (inr ended) =
        subst (λ (z : Seat V). GainsAbortedFor o s z k.calls cause) (sym (none ended.0))
        (gains_for s b k.before m k.calls cause first k.at.aborts k.at.keeps.seat.1 k.at.stands (k.refused.aborted ended.0))

    pub gains_broken : (k : IsUnmade asks o (acts o b).aborted s m cause)
        → GainsAbortedFor o s u (calls_of asks o (acts o b).aborted s m cause k) cause
    gains_broken (inl k) = after_call k (k.refused.leaves k.calls k.at.stands)
    gains_broken (inr k) =
        inr (inr k.memory, gains s b m u k.calls None first k.aborts k.keeps.seat.1 k.stands (noted (k.calls, k.stands)))

  -- ---- one is gained
  module _ (s u : Seat V) where
    gained_for : (calls : List (Call V × Reply V)) (cause : Refusal) → GainsAbortedFor o s u calls cause
        → (e : Ended V) × Aborts o s u (e ∷ [])
    gained_for calls cause (inl g) = (record { actor = actor s; rv = g.number; calls = calls; cause = Some cause }, g.gained)
    gained_for calls cause (inr g) = (record { actor = actor s; rv = g.1.number; calls = calls; cause = None }, g.1.gained)

    -- the begin was answered, so an attempt that was refused has left one more
    pub refused_gains : (asks : List (Reply V) → Ask V → Type 0) (cause : Refusal) → (IsExhausted o s u cause → ⊥)
        → IsRefusedOf asks o s u cause → (e : Ended V) × Aborts o s u (e ∷ [])
    refused_gains asks cause begun (inl (refused, none)) = absurd (begun refused.1)
    refused_gains asks cause begun (inr (inl k)) = gained_for k.calls cause k.gains
    refused_gains asks cause begun (inr (inr k)) =
        gained_for (calls_of asks o (acts o k.begun.first).aborted s k.left cause k.unmade) cause k.gains
