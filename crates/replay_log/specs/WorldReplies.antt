-- What a transaction keeps of its calls, and what they are answered.
use Rattle.std.specs.Prelude.{◌≡◌, ◌⊎◌, ℕ, true, [], ◌∷◌, ◌++◌, Option, Some, None}
use Rattle.seq_model.specs.declared.call.Call.{Call}
use Rattle.seq_model.specs.declared.call.Op.TheVariants.{Read}
use Rattle.seq_model.specs.declared.event.Answer.TheVariants as answer
use Rattle.seq_model.specs.declared.event.Notice.{Notice}
use Rattle.seq_model.specs.declared.event.Notice.TheVariants.{Quiet, Answered, Refused}
use Rattle.replay_log.specs.Contents.{CollectionCall}
use Rattle.replay_log.specs.Worlds.{Stage, Seat, Idle, Beginning, Open, Reading, Trying, Copying, Loading, Closing, call_of}
use Rattle.replay_log.specs.WorldRefusals.{is_ending}

module _ {V : Type 0} where
  abbrev pub as_call : CollectionCall V → Call V
  as_call asked = record { target = asked.collection; op = asked.op }

  -- the call that is under way at this stage
  abbrev pub call_at : Stage V → Option (Call V)
  call_at (Reading l) = Some (record { target = l; op = Read })
  call_at (Trying asked tries) = Some (as_call asked)
  call_at (Copying asked) = Some (as_call asked)
  call_at (Loading o left) = Some (call_of o)
  call_at stage = None

  -- What comes of a call of a, whose seat was x and is u: it is answered, and stands with the reply that is returned after those before it;
  -- or it is refused; or it is under way still, or its transaction is being aborted. But for the first nothing has joined the calls.
  abbrev pub IsMade : ℕ → Call V → (x u : Seat V) → Notice V → Type 0
  IsMade a call x u (Answered b (answer.Replied reply)) = (b ≡ a) × (u.stage ≡ Open) × (u.calls ≡ x.calls ++ (call, reply) ∷ [])
  IsMade a call x u (Answered b n) = ⊥
  IsMade a call x u (Refused b cause) = (b ≡ a) × (u.calls ≡ x.calls)
  IsMade a call x u Quiet = (u.calls ≡ x.calls) × ((call_at u.stage ≡ Some call) ⊎ (is_ending u.stage ≡ true))

  -- The number of the record that a step at this stage returns: a transaction without writes has that at which it began.
  abbrev pub number_at : Seat V → Stage V → ℕ
  number_at x Closing = x.rv
  number_at x stage = x.wv

  -- What comes of anything else: the calls remain; one that begins, or has ended, has none. A commit is answered with the number of its
  -- record.
  abbrev pub IsKept : ℕ → (stage : Stage V) → (x u : Seat V) → Notice V → Type 0
  IsKept a stage x u (Answered b (answer.Replied reply)) = ⊥
  IsKept a stage x u (Answered b (answer.Committed n)) = (b ≡ a) × (u.stage ≡ Idle) × (n ≡ number_at x stage)
  IsKept a stage x u (Answered b (answer.Begun rv)) = (b ≡ a) × (stage ≡ Beginning) × (u.rv ≡ rv) × (u.calls ≡ [])
  IsKept a stage x u n = (u.calls ≡ x.calls) ⊎ ((u.stage ≡ Idle) × (u.calls ≡ []))
