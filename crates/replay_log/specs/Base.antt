-- A base of any of the four kinds: what it shows to calls, and what calls answer, read, write and change.
use Rattle.std.specs.Prelude.{◌≡◌, ℕ, ◌+◌, ◌<◌, ◌≤◌, List, [], ◌++◌, length, Option, Some, None, option_map}
use Rattle.std.specs.Ordering.{nat_cmp}
use Rattle.std.specs.FinMap.{FinMap, empty}
use Rattle.seq_model.specs.declared.call.Op.{Op}
use Rattle.seq_model.specs.declared.held.Held.{Held}
use Rattle.seq_model.specs.declared.held.Held.TheVariants as held
use Rattle.seq_model.specs.declared.kind.Kind.{Kind}
use Rattle.seq_model.specs.declared.kind.Kind.TheVariants as kind
use Rattle.seq_model.specs.Counts.{Multiset}
use Rattle.conflict.specs.declared.change.Change.{Change}
use Rattle.conflict.specs.declared.outcome.Outcome.{Outcome}
use Rattle.conflict.specs.Refusals.{IsPqStripeCount, IsStripeCount}
use Rattle.conflict.specs.Rules.{applied, AreConflicting}
use Rattle.base_map.specs.Conflicts as map
use Rattle.base_bag.specs.Conflicts as bag
use Rattle.base_pq.specs.Conflicts as pq
use Rattle.base_pq.specs.Room.{HasRoom}
use Rattle.base_queue.specs.Conflicts as queue
use Rattle.replay_log.specs.declared.base.Base.{Base}
use Rattle.replay_log.specs.declared.base.Base.TheVariants as base

-- what a base shows
pub data Shown (V : Type 0) : Type 0 where
  OfMap : (entries : FinMap nat_cmp V) → Shown V
  OfBag : (elements : Multiset) → Shown V
  OfPq : (elements : pq.Shown) → Shown V
  OfQueue : (items : queue.Shown) → Shown V

-- a collection of the kind may have so many stripes
abbrev pub IsStripeCountOfKind : Kind → ℕ → Type 0
IsStripeCountOfKind kind.Pq n = IsPqStripeCount n
IsStripeCountOfKind k n = IsStripeCount n

module _ {V : Type 0} where
  -- what an empty collection of the kind shows
  abbrev pub empty_of : Kind → Shown V
  empty_of kind.Map = OfMap empty
  empty_of kind.Bag = OfBag empty
  empty_of kind.Pq = OfPq (record { elements = empty; least = None })
  empty_of kind.Queue = OfQueue (queue.queue_view 0 [])

  abbrev pub shown_of : Base V → Shown V
  shown_of (base.Map b) = OfMap b.shown
  shown_of (base.Bag b) = OfBag b.shown
  shown_of (base.Pq b) = OfPq b.shown
  shown_of (base.Queue b) = OfQueue b.shown

  abbrev pub stripes_of : Base V → ℕ
  stripes_of (base.Map b) = b.stripes
  stripes_of (base.Bag b) = b.stripes
  stripes_of (base.Pq b) = b.stripes
  stripes_of (base.Queue b) = b.stripes

  abbrev pub editions_of : Base V → List ℕ
  editions_of (base.Map b) = b.editions
  editions_of (base.Bag b) = b.editions
  editions_of (base.Pq b) = b.editions
  editions_of (base.Queue b) = b.editions

  -- it has room for these changes; a priority queue in each stripe for those that fall on it
  abbrev pub IsPreparedFor : List (Change V) → Base V → Type 0
  IsPreparedFor changes (base.Map b) = length changes ≤ b.room
  IsPreparedFor changes (base.Bag b) = length changes ≤ b.room
  IsPreparedFor changes (base.Pq b) = HasRoom b.stripes b.room changes
  IsPreparedFor changes (base.Queue b) = length changes ≤ b.room

  -- what it was prepared for, it is still prepared for
  abbrev pub StaysPrepared : (before now : Base V) → Type 0
  StaysPrepared before now = (changes : List (Change V)) → IsPreparedFor changes before → IsPreparedFor changes now

  -- where it was prepared for these changes and others, it is prepared for the others
  abbrev pub LeavesPrepared : List (Change V) → (before now : Base V) → Type 0
  LeavesPrepared changes before now = (more : List (Change V)) → IsPreparedFor (changes ++ more) before → IsPreparedFor more now

  -- what a call answers; none, if it is of another kind
  abbrev pub outcome_of : Op V → Shown V → Option (Outcome V)
  outcome_of op (OfMap s) = map.outcome_of op s
  outcome_of op (OfBag s) = bag.outcome_of op s
  outcome_of op (OfPq s) = pq.outcome_of op s
  outcome_of op (OfQueue s) = queue.outcome_of op s

  -- the locations that an outcome reads in n stripes, those that it writes, and how many there are
  abbrev pub reads_of : ℕ → Outcome V → Shown V → List ℕ
  reads_of n o (OfMap s) = map.reads_of n o
  reads_of n o (OfBag s) = bag.reads_of n o
  reads_of n o (OfPq s) = pq.reads_of n o
  reads_of n o (OfQueue s) = queue.reads_of n o

  abbrev pub writes_of : ℕ → Outcome V → Shown V → List ℕ
  writes_of n o (OfMap s) = map.writes_of n o
  writes_of n o (OfBag s) = bag.writes_of n o
  writes_of n o (OfPq s) = pq.writes_of n o
  writes_of n o (OfQueue s) = queue.writes_of n o

  abbrev pub locations_of : ℕ → Shown V → ℕ
  locations_of n (OfMap s) = n
  locations_of n (OfBag s) = n
  locations_of n (OfPq s) = n + 1
  locations_of n (OfQueue s) = n + 2

  -- what an outcome changes
  abbrev pub changes_of : Outcome V → Shown V → List (Change V)
  changes_of o (OfMap s) = map.changes_of o
  changes_of o (OfBag s) = bag.changes_of o
  changes_of o (OfPq s) = pq.changes_of o
  changes_of o (OfQueue s) = queue.changes_of o

  -- what changes make, in order
  abbrev pub after : List (Change V) → Shown V → Shown V
  after changes (OfMap s) = OfMap (applied (map.rules V) changes s)
  after changes (OfBag s) = OfBag (applied (bag.rules V) changes s)
  after changes (OfPq s) = OfPq (applied (pq.rules V) changes s)
  after changes (OfQueue s) = OfQueue (applied (queue.rules V) changes s)

  -- the view of a state of a collection, and the state of a view
  abbrev pub view_of : Held V → Option (Shown V)
  view_of (held.Map m) = option_map OfMap (map.view_of (held.Map m))
  view_of (held.Bag m) = option_map OfBag (bag.view_of {V = V} (held.Bag m))
  view_of (held.Pq m) = option_map OfPq (pq.view_of {V = V} (held.Pq m))
  view_of (held.Queue head items) = option_map OfQueue (queue.view_of {V = V} (held.Queue head items))

  abbrev pub held_of : Shown V → Held V
  held_of (OfMap s) = (map.rules V).held_of s
  held_of (OfBag s) = (bag.rules V).held_of s
  held_of (OfPq s) = (pq.rules V).held_of s
  held_of (OfQueue s) = (queue.rules V).held_of s

  -- two outcomes, both legal at s, of which neither writes what the other reads: each is legal after the other, and both orders end in one
  -- view
  abbrev pub Commute : ℕ → Shown V → Type 0
  Commute n s =
      (p q : Op V) (a b : Outcome V) → 0 < n → outcome_of p s ≡ Some a → outcome_of q s ≡ Some b
      → ¬ AreConflicting (reads_of n a s) (writes_of n a s) (reads_of n b s) (writes_of n b s)
      → (outcome_of q (after (changes_of a s) s) ≡ Some b)
      × ((outcome_of p (after (changes_of b s) s) ≡ Some a)
      × (after (changes_of b s) (after (changes_of a s) s) ≡ after (changes_of a s) (after (changes_of b s) s)))
