-- What a location covers of a base, and the base that its parts make up. A part is a collection of the same kind that shows nothing
-- elsewhere.
use Rattle.std.specs.Prelude.{◌≡◌, ℕ, zero, suc, ◌<◌, List, [], ◌∷◌, Some, None, Any, Contains, ◌==◌, if◌then◌else◌}
use Rattle.std.specs.Ordering.{nat_cmp}
use Rattle.std.specs.FinMap.{FinMap, empty, entries, insert, retain_keys}
use Rattle.seq_model.specs.declared.call.Op.{Op}
use Rattle.seq_model.specs.Counts.{Multiset}
use Rattle.conflict.specs.declared.change.Change.{Change}
use Rattle.conflict.specs.declared.outcome.Outcome.{Outcome}
use Rattle.conflict.specs.Footprints.{key_location, least_location, stripe_location, head_location, tail_location, cell_location}
use Rattle.base_pq.specs.Conflicts as pq
use Rattle.base_queue.specs.Conflicts as queue
use Rattle.replay_log.specs.Base.{Shown, OfMap, OfBag, OfPq, OfQueue, after, changes_of, outcome_of, reads_of, writes_of}

-- the entries whose keys are on this location
abbrev pub kept : {X : Type 0} → (ℕ → ℕ) → ℕ → FinMap nat_cmp X → FinMap nat_cmp X
kept place l m = retain_keys m (λ k. place k == l)

-- the map with these entries over its own
abbrev pub overlaid : {X : Type 0} → List (ℕ × X) → FinMap nat_cmp X → FinMap nat_cmp X
overlaid [] m = m
overlaid (e ∷ es) m = insert (overlaid es m) e.0 e.1

-- of each of n locations the entries that are on it
abbrev pub joined : {X : Type 0} → (ℕ → ℕ) → ℕ → (ℕ → FinMap nat_cmp X) → FinMap nat_cmp X
joined place zero v = empty
joined place (suc n) v = overlaid (entries (kept place n (v n))) (joined place n v)

pub data Kind : Type 0 where
  MapKind BagKind PqKind QueueKind : Kind

module _ {V : Type 0} where
  abbrev pub kind_of : Shown V → Kind
  kind_of (OfMap m) = MapKind
  kind_of (OfBag m) = BagKind
  kind_of (OfPq s) = PqKind
  kind_of (OfQueue s) = QueueKind

  -- what is shown as one kind; nothing, if it is of another
  abbrev pub as_map : Shown V → FinMap nat_cmp V
  as_map (OfMap m) = m
  as_map s = empty

  abbrev pub as_bag : Shown V → Multiset
  as_bag (OfBag m) = m
  as_bag s = empty

  abbrev pub as_pq : Shown V → pq.Shown
  as_pq (OfPq s) = s
  as_pq s = record { elements = empty; least = None }

  abbrev pub as_queue : Shown V → queue.Shown
  as_queue (OfQueue s) = s
  as_queue s = record { cells = empty; head = 0; tail = 0 }

  -- the part that location l of n stripes covers
  abbrev pub part : ℕ → ℕ → Shown V → Shown V
  part n l (OfMap m) = OfMap (kept (key_location n) l m)
  part n l (OfBag m) = OfBag (kept (key_location n) l m)
  part n l (OfPq s) = OfPq (record { elements = kept (stripe_location n) l s.elements; least = if least_location == l then s.least else None })
  part n l (OfQueue s) =
      OfQueue (record {
        cells = kept (cell_location n) l s.cells;
        head = if head_location == l then s.head else 0;
        tail = if tail_location == l then s.tail else 0;
      })

  -- the whole of one kind that has these parts
  abbrev pub whole : ℕ → Kind → (ℕ → Shown V) → Shown V
  whole n MapKind v = OfMap (joined (key_location n) n (λ l. as_map (v l)))
  whole n BagKind v = OfBag (joined (key_location n) n (λ l. as_bag (v l)))
  whole n PqKind v =
      OfPq (record { elements = joined (stripe_location n) (suc n) (λ l. (as_pq (v l)).elements); least = (as_pq (v least_location)).least })
  whole n QueueKind v =
      OfQueue (record {
        cells = joined (cell_location n) (suc (suc n)) (λ l. (as_queue (v l)).cells);
        head = (as_queue (v head_location)).head;
        tail = (as_queue (v tail_location)).tail;
      })

-- a base is the whole of its parts
abbrev pub IsWhole : Type 0 → Type 0
IsWhole V = (n : ℕ) (s : Shown V) → 0 < n → whole n (kind_of s) (λ l. part n l s) ≡ s

-- an outcome depends on the parts of the locations that it reads
abbrev pub AnswersByParts : Type 0 → Type 0
AnswersByParts V =
    (n : ℕ) (k : Kind) (op : Op V) (v w : ℕ → Shown V) (o : Outcome V) → 0 < n → outcome_of op (whole n k v) ≡ Some o
    → ((l : ℕ) → Contains (reads_of n o (whole n k v)) l → v l ≡ w l) → outcome_of op (whole n k w) ≡ Some o

-- and whether there is one on the kind alone
abbrev pub KnowsItsCalls : Type 0 → Type 0
KnowsItsCalls V =
    (n : ℕ) (k : Kind) (op : Op V) (v w : ℕ → Shown V) → outcome_of op (whole n k v) ≡ None → outcome_of op (whole n k w) ≡ None

-- its changes leave the part of each location that it does not write
abbrev pub LeavesOtherParts : Type 0 → Type 0
LeavesOtherParts V =
    (n l : ℕ) (o : Outcome V) (s : Shown V) → ¬ Contains (writes_of n o s) l → part n l (after (changes_of o s) s) ≡ part n l s

-- and what changes make of a part depends on that part
abbrev pub ChangesByPart : Type 0 → Type 0
ChangesByPart V =
    (n l : ℕ) (k : Kind) (changes : List (Change V)) (v w : ℕ → Shown V) → 0 < n → v l ≡ w l
    → part n l (after changes (whole n k v)) ≡ part n l (after changes (whole n k w))

-- changes that leave, of every collection of this kind, the part of each location but these
abbrev pub AreWithin : {V : Type 0} → ℕ → Kind → List ℕ → List (Change V) → Type 0
AreWithin {V} n k writes changes = (l : ℕ) (s : Shown V) → kind_of s ≡ k → ¬ Contains writes l → part n l (after changes s) ≡ part n l s

-- changes within disjoint locations commute on all that is shown
abbrev pub DisjointChangesCommute : Type 0 → Type 0
DisjointChangesCommute V =
    (n : ℕ) (writes other_writes : List ℕ) (changes other_changes : List (Change V)) (s : Shown V)
    → AreWithin n (kind_of s) writes changes → AreWithin n (kind_of s) other_writes other_changes
    → ¬ Any (Contains other_writes) writes
    → after other_changes (after changes s) ≡ after changes (after other_changes s)

-- the changes of an outcome are within the locations that it writes
abbrev pub ChangesAreWithinWrites : Type 0 → Type 0
ChangesAreWithinWrites V = (n : ℕ) (o : Outcome V) (s : Shown V) → AreWithin n (kind_of s) (writes_of n o s) (changes_of o s)
