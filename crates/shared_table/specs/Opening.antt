-- The world that a table opened with.
use Rattle.std.specs.Prelude.{ℕ, List, length}
use Rattle.atomic_table.specs.Table.{State}
use Rattle.replay_log.specs.Collections.{Suit}
use Rattle.replay_log.specs.Contents.{Block, HaveStripes, end_of}
use Rattle.replay_log.specs.Seats.{World}
use Rattle.actor_parts.specs.Openings.{blocks_of, world_of}
use Rattle.shared_table.specs.declared.view.Opening.{Opening}
use Rattle.shared_table.specs.Shown.{SeatKnowledge, Slot, Rule}

module _ {V : Type 0} where
  -- the collections' blocks
  abbrev pub blocks_at : Opening V → List Block
  blocks_at k = blocks_of k.shape.value.stripes k.state.value.held

  -- how many words and locations there are
  abbrev pub words_at : Opening V → ℕ
  words_at k = length k.state.value.words

  abbrev pub locations_at : Opening V → ℕ
  locations_at k = end_of (words_at k) (blocks_at k)

  abbrev pub world_at : Opening V → World V
  world_at k = world_of k.shape.value.stripes k.shape.value.clock k.state.value

  -- The rule of a running table: its collections have stripes, and suit them, and the rule of the world that it opened with.
  pub record Holds (k : Opening V) (s : State (Slot V) (SeatKnowledge V)) : Type 0 where
    pub stripes : HaveStripes (blocks_at k)
    pub suits : Suit (blocks_at k) k.state.value.held
    pub rule : Rule (world_at k) s
