-- The machine's history as transactions on a list of sequential collections, one after another. A world's serial order is said of its
-- records, which have words and collections in one list of calls; here stand the collections alone, as the machine has them.
use Rattle.std.specs.Prelude.{ℕ, zero, suc, List, [], ◌∷◌, Option, Some, None, option_map}
use Rattle.seq_model.specs.declared.call.Op.{Op}
use Rattle.seq_model.specs.declared.call.Reply.{Reply}
use Rattle.seq_model.specs.declared.held.Held.{Held}
use Rattle.seq_model.specs.Calls.{held_call}
use Rattle.tx_machine.specs.Boosted.{Committed}
use Rattle.tx_machine.proofs.States as states
use Rattle.tx_machine.proofs.States.{Sequential}
use Rattle.replay_log.specs.Contents.{CollectionCall, CallWithOutcome}

module _ {V : Type 0} where
  -- what a sequential call on collection k replies; none, if it isn't there or is of another kind
  abbrev pub reply_at : List (Held V) → ℕ → Op V → Option (Reply V)
  reply_at [] k op = None
  reply_at (h ∷ hs) zero op = option_map (λ r. r.0) (held_call op h)
  reply_at (h ∷ hs) (suc k) op = reply_at hs k op

  abbrev pub called : Option (Reply V × Held V) → Held V → Held V
  called (Some r) h = r.1
  called None h = h

  -- and what it leaves
  abbrev pub after_call : List (Held V) → ℕ → Op V → List (Held V)
  after_call [] k op = []
  after_call (h ∷ hs) zero op = called (held_call op h) h ∷ hs
  after_call (h ∷ hs) (suc k) op = h ∷ after_call hs k op

  -- the sequential collections of the machine, whose runs these are
  abbrev pub sequential : Sequential (CollectionCall V) (CallWithOutcome V) (List (Held V)) (Option (Reply V))
  sequential = record {
    op_of = λ o. o.asked;
    reply_of = λ o. option_map (λ x. x.reply) o.outcome;
    next = λ hs a. after_call hs a.collection a.op;
    reply = λ hs a. reply_at hs a.collection a.op;
  }

  abbrev pub after_calls : List (Held V) → List (CallWithOutcome V) → List (Held V)
  after_calls hs os = states.after_calls sequential hs os

  abbrev pub AreReplies : List (Held V) → List (CallWithOutcome V) → Type 0
  AreReplies hs os = states.AreReplies sequential hs os

  abbrev pub after_run : List (Held V) → List (Committed (CallWithOutcome V)) → List (Held V)
  after_run hs rs = states.after_all sequential hs rs

  abbrev pub IsRunOn : List (Held V) → List (Committed (CallWithOutcome V)) → Type 0
  IsRunOn hs rs = states.AreAll sequential hs rs

  abbrev pub held_at : List (Committed (CallWithOutcome V)) → ℕ → List (Held V) → List (Held V)
  held_at rs n hs = states.state_at sequential rs n hs
