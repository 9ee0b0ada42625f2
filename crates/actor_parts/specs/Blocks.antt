-- How the locations of a world are laid out: what of a world never changes. And the collections that a transaction has written.
use Rattle.std.specs.Prelude.{◌≡◌, ◌⊎◌, ℕ, ◌+◌, ◌<◌, ◌≤◌, ◌++◌, length, Bool, false, not, ◌==◌, if◌then◌else◌, List, [], ◌∷◌, Option, Some}
use Rattle.std.specs.Prelude.{None, filter}
use Rattle.tx_sets.specs.Entries.{Entries, locations}
use Rattle.replay_log.specs.Contents.{Block, end_of, home_of, is_plain, size, size_by}
use Rattle.replay_log.specs.Contents as contents
use Rattle.replay_log.specs.Parts as parts
use Rattle.replay_log.specs.Worlds.{World, all_of, distinct}
use Rattle.seq_model.specs.declared.kind.Kind.{Kind}
use Rattle.seq_model.specs.declared.kind.Kind.TheVariants as kind
use Rattle.actor_parts.specs.declared.blocks.BlockSpan.{BlockSpan}
use Rattle.actor_parts.specs.declared.blocks.TheConstants.{COLLECTION_LIMIT, TABLE_LIMIT}

-- The number of plain words, and the block of each collection after them.
pub record BlocksView : Type 0 where
  pub words : ℕ
  pub blocks : List Block

abbrev pub kind_of : Kind → parts.Kind
kind_of kind.Map = parts.MapKind
kind_of kind.Bag = parts.BagKind
kind_of kind.Pq = parts.PqKind
kind_of kind.Queue = parts.QueueKind

abbrev pub block_of : BlockSpan → Block
block_of p = record { kind = kind_of p.kind; stripes = p.stripes }

-- each block begins where the one before it ends, and the first one at w
abbrev pub AreEnds : ℕ → List BlockSpan → Type 0
AreEnds w [] = Unit {0}
AreEnds w (p ∷ ps) = (p.end ≡ w + size (block_of p)) × AreEnds p.end ps

-- the collection that a location is in, but for a plain word
abbrev pub home_in : BlocksView → ℕ → Option ℕ
home_in v l = if is_plain v.words v.blocks l then None else Some (home_of v.words v.blocks l)

-- the collections with one of these locations, rising
abbrev pub homes_in : BlocksView → Entries → List ℕ
homes_in v es = distinct (all_of (home_of v.words v.blocks) (filter (λ l. not (is_plain v.words v.blocks l)) (locations es)))

abbrev pub is_first : ℕ → List ℕ → Bool
is_first k [] = false
is_first k (x ∷ xs) = k == x

-- the collection of one location more, below the others
abbrev pub with_home : Option ℕ → List ℕ → List ℕ
with_home None ks = ks
with_home (Some k) ks = if is_first k ks then ks else k ∷ ks

-- the locations of w are laid out so
abbrev pub IsLaid : {V : Type 0} → BlocksView → World V → Type 0
IsLaid v w = (w.words ≡ v.words) × (w.blocks ≡ v.blocks)

-- one block more
abbrev pub with_block : BlocksView → Kind → ℕ → BlocksView
with_block v k n = record v { blocks = v.blocks ++ record { kind = kind_of k; stripes = n } ∷ [] }

-- there are as many collections as there may be, or the locations would be too many
abbrev pub IsBeyond : BlocksView → Kind → ℕ → Type 0
IsBeyond v k n = (COLLECTION_LIMIT ≤ length v.blocks) ⊎ (TABLE_LIMIT < end_of v.words v.blocks + size_by (kind_of k) n)

-- this is the kind of collection k; none, where it isn't there
abbrev pub IsKindAt : BlocksView → ℕ → Option Kind → Type 0
IsKindAt v k None = contents.block_of v.blocks k ≡ None
IsKindAt v k (Some kind) = (b : Block) × (k < length v.blocks) × (contents.block_of v.blocks k ≡ Some b) × (b.kind ≡ kind_of kind)
