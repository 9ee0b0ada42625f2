-- A seat with what its actor has asked since its last step, and what a step makes of it.
use Rattle.std.specs.Prelude.{◌≡◌, ◌⊎◌, ℕ, ◌+◌, List, [], ◌∷◌, ◌++◌, Option, Some, None, false, ◌==◌, if◌then◌else◌}
use Rattle.tx_machine.specs.Cells.{Cell, ClockCell, becomes}
use Rattle.seq_model.specs.declared.event.Event.{Event}
use Rattle.seq_model.specs.Contents.{Contents}
use Rattle.seq_model.specs.declared.event.Event.TheVariants.{Step}
use Rattle.tx_machine.specs.Boosted.{is_actor}
use Rattle.replay_log.specs.declared.base.Base.{Base}
use Rattle.replay_log.specs.Contents.{Block, block_of, first_of}
use Rattle.actor_parts.specs.Blocks.{kind_of}
use Rattle.shared_table.specs.declared.blocks.Block as placed
use Rattle.replay_log.specs.Seats.{World}
use Rattle.replay_log.specs.Worlds.{happens}
use Rattle.replay_log.specs.WorldTraces.{is_half_done}
use Rattle.actor_laws.specs.Bases.{IsBaseOf, ShowsBase, IsFolded, log_changes, log_locations}
use Rattle.actor_laws.specs.Gates.{Puts, GoesHome}
use Rattle.actor_laws.specs.StepTargets.{Word, Gate, deed_of}
use Rattle.actor_laws.specs.Steps.{ready_at}
use Rattle.shared_table.specs.declared.seat.EventsSinceStep.{EventsSinceStep, Nothing, More'}
use Rattle.shared_table.specs.declared.seat.Seat.{Seat}
use Rattle.shared_table.specs.declared.table.TxTable.{TxTable}
use Rattle.shared_table.specs.Opening.{blocks_at, locations_at, words_at, world_at}
use Rattle.shared_table.specs.Turns.{asked_all, lone, spot, stage_of, found_at, moved, ends}
use Rattle.shared_table.specs.Shown.{SeatKnowledge, Slot, HasHappened, IsBaseAt, IsReached, acting}

-- The place of collection k among the locations after n words.
pub record IsBlockAt (n : ℕ) (bs : List Block) (k : ℕ) (b : placed.Block) : Type 0 where
  pub block : block_of bs k ≡ Some (record { kind = kind_of b.kind; stripes = b.stripes })
  pub first : b.first ≡ first_of n bs k

module _ {V : Type 0} where
  -- what the seat has asked, the first event first
  abbrev pub list_of : EventsSinceStep V → List (Event V)
  list_of Nothing = []
  list_of (More' _ before event) = list_of before ++ event.value ∷ []

  -- what the seat knows: its shares, clock, turns and receipts
  abbrev pub view : Seat V → SeatKnowledge V
  view s = s.place.me.0

  -- the bases that it has out of their slots, in the order in which it took them
  abbrev pub out : Seat V → List (ℕ × Slot V)
  out s = s.place.me.1

  -- the world that its actor has for itself, with what it has asked, at a table that opened with o
  abbrev pub acts : World V → Seat V → World V
  acts o s = asked_all s.place.id (lone s.place.id o (view s).turns) (list_of s.asked)

  -- the world that its actor has for itself, without what it has asked since its last step
  abbrev pub kept : World V → Seat V → World V
  kept o s = lone s.place.id o (view s).turns

  -- the actor of a seat
  abbrev pub actor : Seat V → ℕ
  actor s = s.place.id

  -- the seat is one of the table
  abbrev pub Owns : TxTable V → Seat V → Type 0
  Owns t s = s.place.table_id ≡ t.whole.shared.table_id

  -- the world that a table opened with, its shape and its contents
  abbrev pub opening_of : TxTable V → World V
  opening_of t = world_at t.whole.shared.key

  abbrev pub blocks_in : TxTable V → List Block
  blocks_in t = blocks_at t.whole.shared.key

  abbrev pub words_in : TxTable V → ℕ
  words_in t = words_at t.whole.shared.key

  abbrev pub locations_in : TxTable V → ℕ
  locations_in t = locations_at t.whole.shared.key

  abbrev pub contents_in : TxTable V → Contents V
  contents_in t = t.whole.shared.key.state.value

  abbrev pub IsSameSeat : Seat V → Seat V → Type 0
  IsSameSeat s t = (t.place.table_id ≡ s.place.table_id) × (t.place.id ≡ s.place.id) × (t.last ≡ s.last)

  -- ---- what is next in an actor's lone world
  -- what the word of its next step becomes, where k is found there
  abbrev pub turned : ℕ → World V → ℕ → ℕ
  turned a w k = becomes (deed_of (ready_at a w (stage_of w a)) a) k

  -- a load of c
  abbrev pub Loads : ℕ → World V → Cell → Type 0
  Loads a w c = (spot a w ≡ Word c) × ((k : ℕ) → turned a w k ≡ k)

  -- a fetch_add of 1 to the clock
  abbrev pub Adds : ℕ → World V → Type 0
  Adds a w = (spot a w ≡ Word ClockCell) × ((k : ℕ) → turned a w k ≡ k + 1)

  -- a compare_exchange of c
  abbrev pub Exchanges : ℕ → World V → Cell → (old new : ℕ) → Type 0
  Exchanges a w c old new = (spot a w ≡ Word c) × ((k : ℕ) → turned a w k ≡ (if k == old then new else k))

  -- a store to c
  abbrev pub Stores : ℕ → World V → Cell → (new : ℕ) → Type 0
  Stores a w c new = (spot a w ≡ Word c) × ((k : ℕ) → turned a w k ≡ new)

  -- no commit of it is half done, and it holds no gate
  abbrev pub Rests : ℕ → World V → Type 0
  Rests a w = (is_half_done (stage_of w a) ≡ false) × ((k : ℕ) → is_actor a (w.boosted.gates k) ≡ false)

  -- ---- the base that is handed in at a gate
  -- its collection was written: the base as the lone world had it, with the log of the transaction folded in
  pub record IsFoldedIn (o : World V) (a : ℕ) (w : World V) (k : ℕ) (base : Base V) : Type 0 where
    pub block : Block
    pub before : Base V
    pub there : block_of o.blocks k ≡ Some block
    pub sort : IsBaseOf block before
    pub shown : ShowsBase o.words o.blocks w k before
    pub folded : IsFolded (log_changes k block (w.boosted.shadows a).outcomes)
        (log_locations k block (w.boosted.shadows a).outcomes) before base

  -- the base is put back as the actor found it, or with its log folded in
  abbrev pub IsHome : World V → (a : ℕ) → World V → (k : ℕ) → Base V → Type 0
  IsHome o a w k base =
      (Puts w a k × IsBaseAt o.blocks k base × ShowsBase o.words o.blocks (happens (found_at a w (Gate k) 1 None) (Step a)).0 k base)
      ⊎ (GoesHome w a k × IsFoldedIn o a w k base)

  -- ---- what a step makes of a seat
  -- The seat took the turn that was next, which found this; it knows this clock, and has these bases out. Its actor's lone world is what
  -- the step of the definitions leaves of it. The step has happened in a world that events have reached, and they lead on to one that is to
  -- the actor as its lone world is now.
  pub record Takes (o : World V) (s : Seat V) (clock found : ℕ) (base : Option (Base V)) (bases : List (ℕ × Slot V)) (t : Seat V)
      : Type 0 where
    pub seat : IsSameSeat s t
    pub turn : view t ≡ acting (view s) (record { asks = list_of s.asked; found = found; base = base }) (ends s.place.id (acts o s)) clock
    pub held : out t ≡ bases
    pub none : list_of t.asked ≡ []
    pub own : acts o t ≡ (moved s.place.id (acts o s) found base).0
    pub happened : HasHappened o s.place.id (acts o s) found base
    pub reached : IsReached o t.place.id (acts o t)

  -- a step on a word
  abbrev pub Stepped : World V → Seat V → ℕ → Seat V → Type 0
  Stepped o s found t = Takes o s (view s).clock found None (out s) t

  -- some number was found
  abbrev pub StepsBlind : World V → Seat V → Seat V → Type 0
  StepsBlind o s t = (found : ℕ) × Stepped o s found t
