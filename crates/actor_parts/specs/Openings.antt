-- The world that a table opens as, what an opening is refused for, and the shape of a table.
use Rattle.std.specs.Prelude.{◌≡◌, ℕ, ◌≤◌, List, [], ◌∷◌, Some, length, replicate, slice_get}
use Rattle.seq_model.specs.declared.held.Held.{Held}
use Rattle.seq_model.specs.declared.limits.TheConstants.{CLOCK_LIMIT}
use Rattle.seq_model.specs.Contents.{Contents}
use Rattle.conflict.specs.Refusals.{IsStripeCountOf}
use Rattle.replay_log.specs.declared.base.Base.{Base}
use Rattle.replay_log.specs.Base.{editions_of, locations_of, shown_of, stripes_of, view_of}
use Rattle.replay_log.specs.Collections.{kind_of_held}
use Rattle.replay_log.specs.Contents.{Block, block_of, end_of}
use Rattle.replay_log.specs.Seats.{World}
use Rattle.replay_log.specs.Worlds.{opened}
use Rattle.actor_parts.specs.declared.blocks.TheConstants.{COLLECTION_LIMIT, TABLE_LIMIT}
use Rattle.actor_laws.specs.Bases.{IsBaseOf}
use Rattle.actor_parts.specs.declared.table.Table.{Table}

module _ {V : Type 0} where
  -- the blocks of these collections, in so many stripes each
  abbrev pub blocks_of : List ℕ → List (Held V) → List Block
  blocks_of [] hs = []
  blocks_of (n ∷ ns) [] = []
  blocks_of (n ∷ ns) (h ∷ hs) = record { kind = kind_of_held h; stripes = n } ∷ blocks_of ns hs

  -- the world that opens with this clock on these contents
  abbrev pub world_of : (stripes : List ℕ) → (clock : ℕ) → Contents V → World V
  world_of stripes clock s = opened (blocks_of stripes s.held) clock s.words s.held

  -- each of these collections may have as many stripes as it is to be in
  abbrev pub AreStripeCounts : List ℕ → List (Held V) → Type 0
  AreStripeCounts [] hs = Unit {0}
  AreStripeCounts (n ∷ ns) [] = Unit {0}
  AreStripeCounts (n ∷ ns) (h ∷ hs) = IsStripeCountOf h n × AreStripeCounts ns hs

  -- An opening is within the limits.
  pub record IsWithin (ns : List ℕ) (start : ℕ) (s : Contents V) : Type 0 where
    pub clock : start ≤ CLOCK_LIMIT
    pub collections : length s.held ≤ COLLECTION_LIMIT
    pub stripes : AreStripeCounts ns s.held
    pub locations : end_of (length s.words) (blocks_of ns s.held) ≤ TABLE_LIMIT

  -- The base was opened on what this collection holds, in so many stripes.
  pub record IsOpened (n : ℕ) (h : Held V) (base : Base V) : Type 0 where
    pub shown : view_of h ≡ Some (shown_of base)
    pub stripes : stripes_of base ≡ n
    pub editions : editions_of base ≡ replicate (locations_of n (shown_of base)) 0

  -- the bases were opened on these collections, one on each
  abbrev pub AreOpened : List ℕ → List (Held V) → List (Base V) → Type 0
  AreOpened ns [] [] = Unit {0}
  AreOpened (n ∷ ns) (h ∷ hs) (base ∷ bases) = IsOpened n h base × AreOpened ns hs bases
  AreOpened ns hs bases = ⊥

  -- The table has a lock word and a value for each location of n words and these blocks, and for each block a gate, and a base of its kind
  -- and shape.
  pub record HasShape (t : Table V) (n : ℕ) (bs : List Block) : Type 0 where
    pub locks : length t.cells.locks.items ≡ end_of n bs
    pub values : length t.cells.values.items ≡ end_of n bs
    pub gates : length t.gates.items ≡ length bs
    pub bases : length t.bases.items ≡ length bs
    pub fit : (k : ℕ) (b : Block) (base : Base V) → block_of bs k ≡ Some b → slice_get t.bases.items k ≡ Some base → IsBaseOf b base
