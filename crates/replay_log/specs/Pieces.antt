-- What a transaction copies of a collection for a call. Of a map and a multiset it copies single keys, and for the number of all keys the
-- number itself; of a priority queue and a queue the whole.
use Rattle.std.specs.Prelude.{ℕ, ◌+◌, ◌==◌, Bool, true, false, List, Option, Some, None}
use Rattle.seq_model.specs.declared.call.Op.{Op}
use Rattle.seq_model.specs.declared.call.Op.TheVariants.{Get, Put, Remove, Count, Add, Take}
use Rattle.conflict.specs.Footprints.{key_location}
use Rattle.replay_log.specs.Parts.{Kind, MapKind, BagKind}
use Rattle.replay_log.specs.Contents.{Block, CollectionCall, block_of, first_of}

pub data Piece : Type 0 where
  Entry : (key : ℕ) → Piece
  Counts Whole : Piece

abbrev pub is_piece : Piece → Piece → Bool
is_piece (Entry k) (Entry j) = k == j
is_piece Counts Counts = true
is_piece Whole Whole = true
is_piece p q = false

-- what a call touches
abbrev pub piece_of : {V : Type 0} → Kind → Op V → Piece
piece_of MapKind (Get k) = Entry k
piece_of MapKind (Put k v) = Entry k
piece_of MapKind (Remove k) = Entry k
piece_of MapKind op = Counts
piece_of BagKind (Count x) = Entry x
piece_of BagKind (Add x) = Entry x
piece_of BagKind (Take x) = Entry x
piece_of BagKind op = Counts
piece_of k op = Whole

-- the locations of a piece, in a collection of so many stripes whose first location is f: that of its key, or all
abbrev pub covers : (stripes f : ℕ) → Piece → ℕ → Bool
covers n f (Entry k) l = l == f + key_location n k
covers n f p l = true

abbrev pub covers_in : Option Block → (f : ℕ) → Piece → ℕ → Bool
covers_in (Some b) f p l = covers b.stripes f p l
covers_in None f p l = true

module _ {V : Type 0} where
  abbrev pub piece_in : Option Block → Op V → Piece
  piece_in (Some b) op = piece_of b.kind op
  piece_in None op = Whole

  -- the piece that a call touches, and its locations, in a world of w words and these blocks
  abbrev pub piece_at : List Block → CollectionCall V → Piece
  piece_at bs asked = piece_in (block_of bs asked.collection) asked.op

  abbrev pub covers_at : (w : ℕ) → List Block → CollectionCall V → ℕ → Bool
  covers_at w bs asked = covers_in (block_of bs asked.collection) (first_of w bs asked.collection) (piece_at bs asked)
