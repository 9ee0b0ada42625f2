-- What a transaction has of a collection is its own in a world, of the kind and the stripes of its block; and what a call of an idle actor
-- meets in each world that events have reached.
use Rattle.std.specs.Prelude.{◌≡◌, ℕ, ◌<◌, true, List, [], ◌∷◌, Option, Some, None}
use Rattle.tx_sets.specs.Entries.{lookup}
use Rattle.tx_machine.specs.Actor.{Open as AtRest}
use Rattle.tx_machine.specs.Boosted.{Accept, Shadow as Part}
use Rattle.replay_log.specs.Base.{Shown, shown_of, stripes_of}
use Rattle.replay_log.specs.Parts.{kind_of}
use Rattle.replay_log.specs.Contents.{CallWithOutcome, CollectionCall, Block, block_of, content, first_of}
use Rattle.replay_log.specs.Guards.{Allows}
use Rattle.replay_log.specs.Pieces.{piece_at}
use Rattle.replay_log.specs.Worlds.{World, actor_of, is_known, may_ask, outcome_at, with_editions}
use Rattle.actor_laws.specs.Bases.{log_changes, log_locations}
use Rattle.tx_sets.specs.Entries.{Entries}
use Rattle.actor_parts.specs.declared.copies.PrivateCopy.{PrivateCopy}
use Rattle.actor_parts.specs.declared.copies.CopyOfCollection.{CopyOfCollection}
use Rattle.actor_parts.specs.declared.judged.Judged.TheVariants.{All, Next}
use Rattle.actor_parts.specs.Blocks.{BlocksView}
use Rattle.actor_parts.specs.PrivateCopy.{ShowParts}
use Rattle.actor_parts.specs.Footprints.{base_in}
use Rattle.actor_parts.specs.Judged.{judged}
use Rattle.actor_parts.specs.CopyInWorld.{IsOwnCopy}
use Rattle.actor_parts.specs.CopyList.{copy_of}

module _ {V : Type 0} where
  -- no call on collection k, which stands in block b from location f on, is among a shadow's outcomes; its parts there are those of a
  -- collection
  abbrev pub IsUncalled : Block → (f k : ℕ) → Part (Shown V) (CallWithOutcome V) → Type 0
  IsUncalled b f k x = ((s : Shown V) × ShowParts b f x.parts s) × (log_changes k b x.outcomes ≡ []) × (log_locations k b x.outcomes ≡ [])

  -- what there is of collection k is what a has of it
  abbrev pub IsOwn : World V → (a k : ℕ) → Option (PrivateCopy V) → Type 0
  IsOwn w a k (Some c) = (b : Block) × IsOwnCopy w a k b (first_of w.words w.blocks k) c
  IsOwn w a k None = (b : Block) → block_of w.blocks k ≡ Some b → IsUncalled b (first_of w.words w.blocks k) k (w.boosted.shadows a)

  -- each collection stands there once
  abbrev pub AreOnce : List (CopyOfCollection V) → Type 0
  AreOnce [] = Unit {0}
  AreOnce (c ∷ cs) = (copy_of cs c.collection ≡ None) × AreOnce cs

-- A copy of collection k is of the kind and the stripes of its block.
pub record IsOfBlock {V : Type 0} (v : BlocksView) (k : ℕ) (c : PrivateCopy V) : Type 0 where
  pub block : Block
  pub there : block_of v.blocks k ≡ Some block
  pub kind : kind_of (shown_of (base_in c)) ≡ block.kind
  pub stripes : stripes_of (base_in c) ≡ block.stripes
  pub some : 0 < block.stripes

-- and so is each
abbrev pub AreOfBlocks : {V : Type 0} → BlocksView → List (CopyOfCollection V) → Type 0
AreOfBlocks {V} v cs = (k : ℕ) (c : PrivateCopy V) → copy_of cs k ≡ Some c → IsOfBlock v k c

-- the locations that a call of a reads, with the editions that were copied
abbrev pub read_at : {V : Type 0} → World V → ℕ → CollectionCall V → Entries
read_at w a asked = with_editions (w.boosted.shadows a).editions ((content w.words w.blocks).reads (outcome_at w a asked))

-- A call that a may ask of a collection, of which it has what the call touches.
pub record IsHeldAsk {V : Type 0} (w : World V) (a : ℕ) (asked : CollectionCall V) : Type 0 where
  pub known : is_known (block_of w.blocks asked.collection) asked.op ≡ true
  pub may : may_ask (actor_of w a) asked.op ≡ true
  pub copied : (w.seats a).copied asked.collection (piece_at w.blocks asked) ≡ true

-- The word actor of a is idle, and of each such call: where all that it reads has been read with the copied editions, it may be accepted,
-- and the location that is to be read next has not been written.
pub record MayCall {V : Type 0} (w : World V) (a : ℕ) : Type 0 where
  pub place : (actor_of w a).place ≡ AtRest
  pub accepts : (asked : CollectionCall V) → IsHeldAsk w a asked → judged (actor_of w a).reads (read_at w a asked) ≡ All
      → Allows (content w.words w.blocks) w.boosted (Accept a asked)
  pub reads : (asked : CollectionCall V) (l : ℕ) → IsHeldAsk w a asked → judged (actor_of w a).reads (read_at w a asked) ≡ Next l
      → lookup (actor_of w a).writes l ≡ None
