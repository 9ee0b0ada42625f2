-- What the actor of a seat was asked, by a begin, and where an allocation may have failed.
--
-- These do not unfold by themselves: a search that meets them would go through both cases.
use Rattle.std.proofs.Common.{◌≡◌, Bool, List, [], ◌∷◌, ◌++◌, Result, Err, inl, inr, ap, ◌∙◌}
use Rattle.std.proofs.lemmas.List.{append_assoc}
use Rattle.seq_model.specs.declared.event.Request.{Request}
use Rattle.seq_model.specs.declared.event.Request.TheVariants.{Abort}
use Rattle.seq_model.specs.declared.refusal.Refusal.{Refusal}
use Rattle.seq_model.specs.declared.refusal.Refusal.TheVariants.{Memory as OutOfMemory}
use Rattle.replay_log.specs.Seats.{World}
use Rattle.shared_table.specs.declared.seat.Seat.{Seat}
use Rattle.actor_laws.specs.KnownStages.{Rests}
use Rattle.tx_turns.specs.Driven.{standing}
use Rattle.tx_turns.specs.RequestHistory.{requests_of}
use Rattle.tx_engine.specs.Requests.{HasAskedFor, HasAskedToBegin, IsOpen, begin_request}

module _ {V : Type 0} where
  -- ---- a call, or a commit
  pub asked_for : {A : Type 0} → (s u : Seat V) (q : Request V) (r : Result A Refusal) → requests_of u ≡ requests_of s ++ q ∷ []
      → HasAskedFor s q r u
  unfolding HasAskedFor
  asked_for s u q r asks = inl asks

  pub aborted_for : (A : Type 0) (s u : Seat V) (q : Request V) (cause : Refusal) → cause ≡ OutOfMemory
      → requests_of u ≡ requests_of s ++ Abort ∷ [] → HasAskedFor {A = A} s q (Err cause) u
  unfolding HasAskedFor
  aborted_for A s u q cause memory asks = inr (λ i. Err (memory i), asks)

  -- nothing was asked from m to u
  pub asked_still : {A : Type 0} → (s m u : Seat V) (q : Request V) (r : Result A Refusal) → requests_of u ≡ requests_of m
      → HasAskedFor s q r m → HasAskedFor s q r u
  unfolding HasAskedFor
  asked_still s m u q r same (inl asks) = inl (same ∙ asks)
  asked_still s m u q r same (inr both) = inr (both.0, same ∙ both.1)

  -- ---- a begin, which m asks once what was open at s was aborted
  pub asked_to_begin : (declared : Bool) (o : World V) (s m u : Seat V) → (IsOpen o s → requests_of m ≡ requests_of s ++ Abort ∷ [])
      → (standing o s ≡ Rests → m ≡ s) → requests_of u ≡ requests_of m ++ begin_request declared ∷ [] → HasAskedToBegin declared o s u
  unfolding HasAskedToBegin
  asked_to_begin declared o s m u aborts none asks = (
    λ opened. asks ∙ (ap (λ (qs : List (Request V)). qs ++ begin_request declared ∷ []) (aborts opened)
        ∙ append_assoc (requests_of s) (Abort ∷ []) (begin_request declared ∷ [])),
    λ rests. asks ∙ ap (λ (k : Seat V). requests_of k ++ begin_request declared ∷ []) (none rests),
  )
