-- The word or gate that a step touches, and an actor alone with what it finds there: a world in which that word, or that gate with its
-- base, is as in another world.
use Rattle.std.specs.Prelude.{ℕ, suc, Option, Some, None, ◌==◌, if◌then◌else◌}
use Rattle.vlock_word.specs.LockWord.{unbits}
use Rattle.tx_machine.specs.World as machine
use Rattle.tx_machine.specs.World.{Deed, plan, put}
use Rattle.tx_machine.specs.Cells.{Cell, ClockCell, LockCell, ValueCell, cell, word_of}
use Rattle.tx_machine.specs.Boosted.{Action, OnWords, TakeGate, PutGate, Accept, GoHome, is_actor}
use Rattle.replay_log.specs.Base.{Shown}
use Rattle.replay_log.specs.Contents.{CollectionCall, home_of}
use Rattle.replay_log.specs.Seats.{World, Stage, actor_of}
use Rattle.actor_laws.specs.Steps.{atomic_action, ready_at}

-- A word of the table, or a gate, or none of them.
pub data Spot : Type 0 where
  Nowhere : Spot
  Word : (c : Cell) → Spot
  Gate : (k : ℕ) → Spot

abbrev pub spot_of : Option Cell → Spot
spot_of None = Nowhere
spot_of (Some c) = Word c

-- the number in the word of a gate: it is free at 0
abbrev pub gate_word : Option ℕ → ℕ
gate_word None = 0
gate_word (Some a) = 1

-- the words with n in one of them
abbrev pub with_word : machine.World → Cell → ℕ → machine.World
with_word s ClockCell n = record s { clock = n }
with_word s (LockCell l) n = record s { locks = put s.locks l (unbits n) }
with_word s (ValueCell l) n = record s { values = put s.values l n }

-- a gate that a found at n; one that it holds itself remains its own, and who else holds it is not seen
abbrev pub found_gate : ℕ → ℕ → Option ℕ → Option ℕ
found_gate a n o = if is_actor a o then o else (if n == 0 then None else Some (suc a))

module _ {V : Type 0} where
  -- the word machine's next step of a, and its word
  abbrev pub deed_of : World V → ℕ → Deed
  deed_of v a = plan (actor_of v a) (actor_of v a).place

  abbrev pub word_spot : World V → ℕ → Spot
  word_spot v a = spot_of (word_of (deed_of v a))

  abbrev pub spot_by : ℕ → World V → Option (Action (CollectionCall V)) → Spot
  spot_by a v (Some (OnWords e)) = word_spot v a
  spot_by a v (Some (TakeGate b k)) = Gate k
  spot_by a v (Some (PutGate b k which)) = Gate k
  spot_by a v (Some (GoHome b k)) = Gate k
  spot_by a v (Some (Accept b op)) = Nowhere
  spot_by a v None = Nowhere

  -- where the next step of a is done
  abbrev pub spot_at : ℕ → World V → Stage V → Spot
  spot_at a v stage = spot_by a (ready_at a v stage) (atomic_action a v stage)

  abbrev pub number_at : World V → Spot → ℕ
  number_at v Nowhere = 0
  number_at v (Word c) = cell v.boosted.words c
  number_at v (Gate k) = gate_word (v.boosted.gates k)

  -- w with this number at a word or gate, and with these parts and editions of a gate's collection
  abbrev pub planted : ℕ → World V → Spot → ℕ → (ℕ → Shown V) → (ℕ → ℕ) → World V
  planted a w Nowhere n parts editions = w
  planted a w (Word c) n parts editions = record w { boosted = record w.boosted { words = with_word w.boosted.words c n } }
  planted a w (Gate k) n parts editions =
      record w {
        boosted =
            record w.boosted {
              gates = put w.boosted.gates k (found_gate a n (w.boosted.gates k));
              parts = λ l. if home_of w.words w.blocks l == k then parts l else w.boosted.parts l;
              editions = λ l. if home_of w.words w.blocks l == k then editions l else w.boosted.editions l;
            };
      }

  -- w, with what a's next step finds in v
  abbrev pub given : ℕ → World V → World V → World V
  given a v w =
      let spot = spot_at a v (v.seats a).stage in
      planted a w spot (number_at v spot) v.boosted.parts v.boosted.editions
