-- How a transaction ends that is refused, starved or aborted: its gates are put back, then its locks, and then the clock is loaded.
use Rattle.std.specs.Prelude.{ℕ, zero, suc, Bool, true, false, if◌then◌else◌, List, [], ◌∷◌, ◌++◌, Option, Some, None}
use Rattle.tx_machine.specs.Actor.{Place, Leave}
use Rattle.tx_machine.specs.Requests as word
use Rattle.tx_machine.specs.Notices as told
use Rattle.seq_model.specs.declared.refusal.Refusal.{Refusal}
use Rattle.seq_model.specs.declared.refusal.Refusal.TheVariants as refusal
use Rattle.seq_model.specs.declared.event.Answer.TheVariants as answer
use Rattle.seq_model.specs.declared.event.Notice.{Notice}
use Rattle.seq_model.specs.declared.event.Notice.TheVariants.{Quiet, Answered, Refused}
use Rattle.replay_log.specs.Seats.{Stage, Ended, Cancelling, Leaving, Returning, Seat, World, After, no_one, at_stage, because, seated}
use Rattle.replay_log.specs.Seats.{acted, asks, actor_of}

abbrev pub is_leaving : Place → Bool
is_leaving Leave = true
is_leaving p = false

module _ {V : Type 0} where
  -- it holds no gate: the locks go back, where there are some, and then the clock is loaded
  abbrev pub unlocked : World V → ℕ → Seat V → World V
  unlocked w a x = seated w a (at_stage x (if is_leaving (actor_of w a).place then Leaving else Cancelling))

  abbrev pub cancels : World V → ℕ → Seat V → World V
  cancels w a x = unlocked (acted w (asks a word.AskCancel ∷ asks a word.AskAbort ∷ [])) a x

  -- the gates of ks are put back first
  abbrev pub gives_up : World V → ℕ → Seat V → List ℕ → After V
  gives_up w a x [] = (cancels w a x, Quiet)
  gives_up w a x (k ∷ ks) = (seated w a (at_stage x (Returning (k ∷ ks))), Quiet)

  -- what the last step of an aborted transaction answers
  abbrev pub why : ℕ → Option Refusal → Notice V
  why a None = Answered a answer.Aborted
  why a (Some cause) = Refused a cause

  abbrev pub ended : World V → ℕ → Seat V → After V
  ended w a x =
      let own : Ended V = record { actor = a; rv = x.rv; calls = x.calls; cause = x.cause } in
      (seated (record w { aborted = w.aborted ++ own ∷ [] }) a no_one, why a x.cause)

  abbrev pub has_cancelled : World V → ℕ → Seat V → told.Notice → After V
  has_cancelled w a x told.Cancelled = (seated (acted w (asks a word.AskAbort ∷ [])) a (at_stage x Leaving), Quiet)
  has_cancelled w a x n = (w, Quiet)

  -- the gate of k was tried, and found free or not
  abbrev pub has_tried : World V → ℕ → Seat V → (free : Bool) → ℕ → List ℕ → (ℕ → Stage V) → Stage V → ℕ → After V
  has_tried w a x free k got again next tries =
      if free then (seated w a (at_stage x next), Quiet) else unless_last tries
    where
      unless_last : ℕ → After V
      unless_last zero = gives_up w a (because x (refusal.GateBusy k)) got
      unless_last (suc n) = (seated w a (at_stage x (again n)), Quiet)
