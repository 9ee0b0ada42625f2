-- Serial order of a running table between two steps.
use Rattle.std.specs.Prelude.{◌≡◌, ℕ, ◌-◌, ◌<◌, false, List, length, get_or, Some}
use mathlib.Core.Option.{some}
use lib.ListN.{get_elem?}
use Rattle.atomic_table.specs.Table.{State}
use Rattle.tx_machine.specs.Cells.{ValueCell}
use Rattle.seq_model.specs.Contents.{Contents}
use Rattle.seq_model.specs.Runs.{after_run}
use Rattle.seq_model.specs.declared.event.Event.{Event}
use Rattle.replay_log.specs.declared.base.Base.{Base}
use Rattle.replay_log.specs.Base.{shown_of, stripes_of}
use Rattle.replay_log.specs.Collections.{shown_at}
use Rattle.replay_log.specs.Contents.{Block, end_of, first_of, home_of, is_plain}
use Rattle.replay_log.specs.Parts.{part}
use Rattle.replay_log.specs.Seats.{World}
use Rattle.replay_log.specs.WorldSerial.{IsSerial}
use Rattle.replay_log.specs.WorldTraces.{is_half_done}
use Rattle.replay_log.specs.Worlds.{run}
use Rattle.shared_table.specs.Layout.{address}
use Rattle.shared_table.specs.Opening.{blocks_at, words_at, world_at}
use Rattle.shared_table.specs.Shown.{IsBaseAt, Shows, Slot}
use Rattle.shared_table.specs.Turns.{lone, stage_of}
use Rattle.shared_table.specs.declared.view.Opening.{Opening}
use Rattle.shared_table.specs.declared.view.SeatKnowledge.{SeatKnowledge}

module _ {V : Type 0} where
  -- no commit of a seat is half done, in the world with its actor alone
  abbrev pub NoneIsHalfDone : World V → List (SeatKnowledge V) → Type 0
  NoneIsHalfDone o views =
      (a : ℕ) (v : SeatKnowledge V) → get_elem? views a ≡ some v → is_half_done (stage_of (lone a o v.turns) a) ≡ false

  -- With n words and these blocks, the words of a table are those of c, and each base that is in its slot is of its collection's kind and
  -- shape, and shows on each of its locations what the collection of c shows there.
  pub record HasContents (n : ℕ) (bs : List Block) (c : Contents V) (s : State (Slot V) (SeatKnowledge V)) : Type 0 where
    pub values : (l : ℕ) → l < n → get_or s.words (address (end_of n bs) (ValueCell l)) 0 ≡ get_or c.words l 0
    pub bases :
        (k : ℕ) (b : Base V) → k < length bs → get_elem? s.homes k ≡ some (some (Some b))
        → IsBaseAt bs k b
        × ((l : ℕ) → is_plain n bs l ≡ false → home_of n bs l ≡ k → part (stripes_of b) (l - first_of n bs k) (shown_of b)
        ≡ shown_at n bs c.held l)

  -- A table with these words, slots and views shows the world that these events reach from its opening. This world is in serial order; so
  -- the receipts of the seats are its records, a run from the opening, and where no commit is half done the table has what they leave.
  pub record IsSerialBetweenSteps (opening : Opening V) (events : List (Event V)) (s : State (Slot V) (SeatKnowledge V)) : Type 0 where
    pub shows : Shows (world_at opening) (run (world_at opening) events) s
    pub serial : IsSerial opening.state.value (run (world_at opening) events)
    pub left : NoneIsHalfDone (world_at opening) s.views
        → HasContents (words_at opening) (blocks_at opening) (after_run (run (world_at opening) events).records opening.state.value) s
