-- How a call may be refused, and how a commit.
--
-- These kinds do not unfold by themselves: a search that meets them would go through all refusals.
use Rattle.std.proofs.Common.{◌≡◌, sym, subst}
use Rattle.seq_model.specs.declared.call.Op.{Op}
use Rattle.seq_model.specs.declared.refusal.Refusal.{Refusal}
use Rattle.seq_model.specs.declared.refusal.Refusal.TheVariants.{Busy, GateBusy, Invalid, Moved}
use Rattle.seq_model.specs.declared.refusal.Refusal.TheVariants.{NoSuch, NoTransaction, Memory as OutOfMemory, Stale}
use Rattle.seq_model.specs.declared.refusal.Refusal.TheVariants.{TooLong}
use Rattle.actor_laws.specs.KnownStages.{IsMistaken}
use Rattle.tx_turns.specs.Driven.{IsCallCause, IsCommitCause}
use Rattle.tx_engine.specs.Requests.{IsCallRefusal, IsCommitRefusal}

-- ---- a call
module _ {V : Type 0} (op : Op V) where
  -- one that is mistaken is refused so
  pub call_mistaken : (cause : Refusal) → IsMistaken cause → IsCallRefusal op cause
  unfolding IsCallRefusal
  call_mistaken NoSuch h = tt
  call_mistaken TooLong h = tt
  call_mistaken cause h = absurd h

  -- or it is aborted
  pub call_given_up : (cause : Refusal) → IsCallCause op cause → IsCallRefusal op cause
  unfolding IsCallRefusal
  call_given_up (Moved l word) h = h
  call_given_up (Stale l base word) h = h
  call_given_up (GateBusy k) h = h
  call_given_up OutOfMemory h = tt
  call_given_up cause h = absurd h

  pub call_without_transaction : IsCallRefusal op NoTransaction
  unfolding IsCallRefusal
  call_without_transaction = tt

  pub call_without_memory : IsCallRefusal op OutOfMemory
  unfolding IsCallRefusal
  call_without_memory = tt

-- ---- a commit
pub commit_given_up : (cause : Refusal) → IsCommitCause cause → IsCommitRefusal cause
unfolding IsCommitRefusal
commit_given_up (Busy l word) h = tt
commit_given_up (Invalid l word) h = tt
commit_given_up (GateBusy k) h = tt
commit_given_up OutOfMemory h = tt
commit_given_up cause h = absurd h

pub commit_without_transaction : IsCommitRefusal NoTransaction
unfolding IsCommitRefusal
commit_without_transaction = tt

pub commit_without_memory : (cause : Refusal) → cause ≡ OutOfMemory → IsCommitRefusal cause
unfolding IsCommitRefusal
commit_without_memory cause is = subst IsCommitRefusal (sym is) tt
