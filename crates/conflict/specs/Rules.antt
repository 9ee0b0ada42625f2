-- A kind of collection, as the detection of conflicts sees it: what calls answer, read, write and change, in n stripes.
use Rattle.std.specs.Prelude.{◌≡◌, ℕ, ◌<◌, ◌⊎◌, Bool, true, false, List, [], ◌∷◌, Option, Some, None, fold, Any, Contains}
use Rattle.seq_model.specs.declared.call.Op.{Op}
use Rattle.seq_model.specs.declared.held.Held.{Held}
use Rattle.seq_model.specs.Calls.{held_call, IsWithinLimits}
use Rattle.seq_model.specs.Changes as call
use Rattle.conflict.specs.declared.change.Change.{Change}
use Rattle.conflict.specs.declared.outcome.Outcome.{Outcome}

-- C is what the collection is to calls, also where no state gives it. It shows an answer, in A, at each point of Q: at each key, or at the
-- least element, the head, the tail. Each point is on one location. The part of a location is what the points on it show.
pub record Rules (V C Q A : Type 0) : Type 0 where
  -- what a call answers; none, if it is of another kind
  pub outcome : Op V → C → Option (Outcome V)
  -- the locations that an outcome reads, that it writes, and how many there are
  pub reads : ℕ → Outcome V → List ℕ
  pub writes : ℕ → Outcome V → List ℕ
  pub locations : ℕ → ℕ
  -- what it changes, and what one change makes
  pub changes : Outcome V → List (Change V)
  pub change : C → Change V → C
  -- what it shows at a point, and the location of the point
  pub look : C → Q → A
  pub location : ℕ → Q → ℕ
  -- the view of a state of this kind, and the state of a view
  pub view_of : Held V → Option C
  pub held_of : C → Held V

-- whether the list has an entry
abbrev pub has_some : {X : Type 0} → List X → Bool
has_some [] = false
has_some (x ∷ xs) = true

-- changes in order
abbrev pub applied : {V C Q A : Type 0} → Rules V C Q A → List (Change V) → C → C
applied r changes s = fold r.change s changes

-- the part of the location is the same in both
abbrev pub SamePart : {V C Q A : Type 0} → Rules V C Q A → ℕ → ℕ → C → C → Type 0
SamePart {V} {C} {Q} r n l s t = (q : Q) → r.location n q ≡ l → r.look s q ≡ r.look t q

-- the parts of all these locations are the same
abbrev pub Agree : {V C Q A : Type 0} → Rules V C Q A → ℕ → List ℕ → C → C → Type 0
Agree r n locations s t = (l : ℕ) → Contains locations l → SamePart r n l s t

-- what an outcome answers depends on the parts that it reads alone
abbrev pub LegalWhereReadsAgree : {V C Q A : Type 0} → Rules V C Q A → Type 0
LegalWhereReadsAgree {V} {C} r =
    (n : ℕ) (op : Op V) (s t : C) (o : Outcome V) → 0 < n → r.outcome op s ≡ Some o → Agree r n (r.reads n o) s t → r.outcome op t ≡ Some o

-- an outcome changes the parts that it writes alone
abbrev pub ChangesOnlyWrites : {V C Q A : Type 0} → Rules V C Q A → Type 0
ChangesOnlyWrites {V} {C} r = (n l : ℕ) (o : Outcome V) (t : C) → ¬ Contains (r.writes n o) l → SamePart r n l t (applied r (r.changes o) t)

-- the outcome writes a location exactly where the call with its reply changes something, and then alone it has changes
abbrev pub WritesWhereItChanges : {V C Q A : Type 0} → Rules V C Q A → ℕ → Outcome V → Type 0
WritesWhereItChanges r n o = (has_some (r.writes n o) ≡ call.changes o.op o.reply) × (has_some (r.changes o) ≡ call.changes o.op o.reply)

abbrev pub OutcomesWriteWhereTheyChange : {V C Q A : Type 0} → Rules V C Q A → Type 0
OutcomesWriteWhereTheyChange {V} {C} r = (n : ℕ) (op : Op V) (s : C) (o : Outcome V) → r.outcome op s ≡ Some o → WritesWhereItChanges r n o

-- a change makes at each point of the same the same; so it does with each part
abbrev pub ChangesByPart : {V C Q A : Type 0} → Rules V C Q A → Type 0
ChangesByPart {V} {C} {Q} r = (c : Change V) (q : Q) (s t : C) → r.look s q ≡ r.look t q → r.look (r.change s c) q ≡ r.look (r.change t c) q

-- at the view of a state an outcome has the reply of the sequential call, and its changes give the view of the state after
abbrev pub FollowsCall : {V C Q A : Type 0} → Rules V C Q A → Type 0
FollowsCall {V} {C} r =
    (op : Op V) (h : Held V) (s : C) (o : Outcome V) → IsWithinLimits h → r.view_of h ≡ Some s → r.outcome op s ≡ Some o
    → (after : Held V) × ((held_call op h ≡ Some (o.reply, after)) × (r.view_of after ≡ Some (applied r (r.changes o) s)))

-- a call has an outcome where it has a reply
abbrev pub AnswersItsKind : {V C Q A : Type 0} → Rules V C Q A → Type 0
AnswersItsKind {V} {C} r = (op : Op V) (h : Held V) (s : C) → r.view_of h ≡ Some s → r.outcome op s ≡ None → held_call op h ≡ None

-- what is written is read, and what is read is a location, as each point's is
abbrev pub WritesWithinReads : {V C Q A : Type 0} → Rules V C Q A → Type 0
WritesWithinReads {V} r = (n l : ℕ) (o : Outcome V) → 0 < n → Contains (r.writes n o) l → Contains (r.reads n o) l

abbrev pub ReadsLocations : {V C Q A : Type 0} → Rules V C Q A → Type 0
ReadsLocations {V} r = (n l : ℕ) (o : Outcome V) → 0 < n → Contains (r.reads n o) l → l < r.locations n

abbrev pub PointsLieOnLocations : {V C Q A : Type 0} → Rules V C Q A → Type 0
PointsLieOnLocations {V} {C} {Q} r = (n : ℕ) (q : Q) → 0 < n → r.location n q < r.locations n

-- the parts decide the whole, and a view of a state holds that state
abbrev pub PartsDecide : {V C Q A : Type 0} → Rules V C Q A → Type 0
PartsDecide {V} {C} {Q} r = (s t : C) → ((q : Q) → r.look s q ≡ r.look t q) → s ≡ t

abbrev pub ViewsDecide : {V C Q A : Type 0} → Rules V C Q A → Type 0
ViewsDecide {V} {C} r = (h : Held V) (s : C) → r.view_of h ≡ Some s → r.held_of s ≡ h

-- the frame laws
pub record FrameLaws {V C Q A : Type 0} (r : Rules V C Q A) : Type 0 where
  pub parts_decide : PartsDecide r
  pub views_decide : ViewsDecide r
  pub legal : LegalWhereReadsAgree r
  pub untouched : ChangesOnlyWrites r
  pub written : OutcomesWriteWhereTheyChange r
  pub by_part : ChangesByPart r
  pub follows : FollowsCall r
  pub answers : AnswersItsKind r
  pub writes_read : WritesWithinReads r
  pub reads_below : ReadsLocations r
  pub points_below : PointsLieOnLocations r

-- two outcomes conflict if a location that one writes is read by the other
abbrev pub AreConflicting : List ℕ → List ℕ → List ℕ → List ℕ → Type 0
AreConflicting reads writes other_reads other_writes = Any (Contains other_reads) writes ⊎ Any (Contains reads) other_writes

-- outcomes that do not conflict, both legal, are legal one after the other, in both orders, which end in one
abbrev pub Commute : {V C Q A : Type 0} → Rules V C Q A → Type 0
Commute {V} {C} r =
    (n : ℕ) (p q : Op V) (a b : Outcome V) (s : C) → 0 < n → r.outcome p s ≡ Some a → r.outcome q s ≡ Some b
    → ¬ AreConflicting (r.reads n a) (r.writes n a) (r.reads n b) (r.writes n b) →
    (r.outcome q (applied r (r.changes a) s) ≡ Some b) × ((r.outcome p (applied r (r.changes b) s) ≡ Some a)
    × (applied r (r.changes b) (applied r (r.changes a) s) ≡ applied r (r.changes a) (applied r (r.changes b) s)))

-- changes that leave each part outside these locations
abbrev pub AreWithin : {V C Q A : Type 0} → Rules V C Q A → ℕ → List ℕ → List (Change V) → Type 0
AreWithin {V} {C} r n writes changes = (l : ℕ) (t : C) → ¬ Contains writes l → SamePart r n l t (applied r changes t)

-- changes within disjoint locations commute everywhere
abbrev pub DisjointChangesCommute : {V C Q A : Type 0} → Rules V C Q A → Type 0
DisjointChangesCommute {V} {C} r =
    (n : ℕ) (writes other_writes : List ℕ) (changes other_changes : List (Change V)) (s : C) → AreWithin r n writes changes
    → AreWithin r n other_writes other_changes → ¬ Any (Contains other_writes) writes
    → applied r other_changes (applied r changes s) ≡ applied r changes (applied r other_changes s)
