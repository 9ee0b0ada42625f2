-- The sequential collections of a world, and how its locations show them.
use Rattle.std.specs.Prelude.{◌≡◌, ℕ, ◌+◌, ◌-◌, List, [], ◌∷◌, nat_lt, if◌then◌else◌}
use Rattle.std.specs.FinMap.{empty}
use Rattle.seq_model.specs.declared.held.Held.{Held}
use Rattle.seq_model.specs.declared.held.Held.TheVariants.{Map, Bag, Pq, Queue}
use Rattle.seq_model.specs.Calls.{IsWithinLimits}
use Rattle.seq_model.specs.Counts.{least}
use Rattle.base_queue.specs.Conflicts.{queue_view}
use Rattle.replay_log.specs.Base.{Shown, OfMap, OfBag, OfPq, OfQueue}
use Rattle.replay_log.specs.Parts.{Kind, MapKind, BagKind, PqKind, QueueKind, part}
use Rattle.replay_log.specs.Contents.{Block, size}

module _ {V : Type 0} where
  abbrev pub kind_of_held : Held V → Kind
  kind_of_held (Map m) = MapKind
  kind_of_held (Bag m) = BagKind
  kind_of_held (Pq m) = PqKind
  kind_of_held (Queue head items) = QueueKind

  -- the view of a collection
  abbrev pub viewed : Held V → Shown V
  viewed (Map m) = OfMap m
  viewed (Bag m) = OfBag m
  viewed (Pq m) = OfPq (record { elements = m; least = least m })
  viewed (Queue head items) = OfQueue (queue_view head items)

  -- each collection is of its block's kind, and within the limits
  abbrev pub Suit : List Block → List (Held V) → Type 0
  Suit [] [] = Unit {0}
  Suit (b ∷ bs) (h ∷ hs) = (kind_of_held h ≡ b.kind) × IsWithinLimits h × Suit bs hs
  Suit [] (h ∷ hs) = ⊥
  Suit (b ∷ bs) [] = ⊥

  -- what the locations from w on show
  abbrev pub shown_from : ℕ → List Block → List (Held V) → ℕ → Shown V
  shown_from w (b ∷ bs) (h ∷ hs) l = if nat_lt l (w + size b) then part b.stripes (l - w) (viewed h) else shown_from (w + size b) bs hs l
  shown_from w (b ∷ bs) [] l = OfMap empty
  shown_from w [] hs l = OfMap empty

  -- what all locations show, of which the first w are words and show nothing
  abbrev pub shown_at : ℕ → List Block → List (Held V) → ℕ → Shown V
  shown_at w bs hs l = if nat_lt l w then OfMap empty else shown_from w bs hs l
