-- Which locations the calls of a transaction read and write, at their places in the run, and which edition a location has at a number.
use Rattle.std.specs.Prelude.{◌⊎◌, ℕ, ◌+◌, Bool, true, false, ◌&&◌, ◌||◌, nat_le, if◌then◌else◌, List, [], ◌∷◌}
use Rattle.seq_model.specs.declared.call.Call.{Call}
use Rattle.seq_model.specs.declared.call.Reply.{Reply}
use Rattle.seq_model.specs.declared.record.Record.{Record}
use Rattle.seq_model.specs.Contents.{Contents}
use Rattle.seq_model.specs.Runs.{after_call, after_calls}
use Rattle.tx_machine.specs.Content.{IsIn, has}
use Rattle.replay_log.specs.Base.{Shown}
use Rattle.replay_log.specs.Contents.{Block, CallWithOutcome, content}
use Rattle.replay_log.specs.Collections.{shown_at}
use Rattle.replay_log.specs.Worlds.{Stage, Idle, Beginning, Storing, Homing, Releasing}

module _ {V : Type 0} where
  -- a transaction is under way at this stage that has neither committed nor ended
  abbrev pub is_undecided : Stage V → Bool
  is_undecided Idle = false
  is_undecided Beginning = false
  is_undecided (Storing ks) = false
  is_undecided (Homing ks) = false
  is_undecided Releasing = false
  is_undecided stage = true

  -- the part of a location in a state of n words and collections on these blocks
  abbrev pub part_at : (n : ℕ) → List Block → Contents V → (l : ℕ) → Shown V
  part_at n bs s l = shown_at n bs s.held l

  -- the outcome of a call on a collection in a state; none, where it is on a word
  abbrev pub outcome_in : (n : ℕ) → List Block → Contents V → Call V → CallWithOutcome V
  outcome_in n bs s call = (content n bs).outcome (part_at n bs s) (record { collection = call.target; op = call.op })

  -- one of these calls, made one after another from this state, reads l
  abbrev pub IsReadBy : (n : ℕ) → List Block → (l : ℕ) → List (Call V × Reply V) → Contents V → Type 0
  IsReadBy n bs l [] s = ⊥
  IsReadBy n bs l (c ∷ cs) s = IsIn l ((content n bs).reads (outcome_in n bs s c.0)) ⊎ IsReadBy n bs l cs (after_call c.0 s)

  -- whether one of them writes l
  abbrev pub is_written_by : (n : ℕ) → List Block → (l : ℕ) → List (Call V × Reply V) → Contents V → Bool
  is_written_by n bs l [] s = false
  is_written_by n bs l (c ∷ cs) s = has ((content n bs).writes (outcome_in n bs s c.0)) l || is_written_by n bs l cs (after_call c.0 s)

  -- The edition of l at number k: how many of these records with at most this number write l, each at its place in the run from this
  -- state.
  abbrev pub edition_at : (n : ℕ) → List Block → (k l : ℕ) → List (ℕ × Record V) → Contents V → ℕ
  edition_at n bs k l [] s = 0
  edition_at n bs k l (r ∷ rs) s =
      (if nat_le r.1.number k && is_written_by n bs l r.1.calls s then 1 else 0)
      + edition_at n bs k l rs (after_calls r.1.calls s)
