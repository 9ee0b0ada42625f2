-- What a transaction keeps of the single keys that it touched of a map or a multiset, and of the number of all keys of a map.
use Rattle.std.specs.Prelude.{◌≡◌, ℕ, suc, ◌+◌, ◌-◌, ◌^◌, ◌<◌, ⊤, length, Bool, true, false, List, Option, Some, None, is_some, nat_lt}
use Rattle.std.specs.Prelude.{replicate, unwrap_or, if◌then◌else◌}
use Rattle.std.specs.Ordering.{nat_cmp}
use Rattle.std.specs.List.{sum}
use Rattle.std.specs.FinMap.{FinMap, empty, get, insert, len, remove}
use Rattle.seq_model.specs.declared.call.Op.{Op}
use Rattle.seq_model.specs.declared.call.Op.TheVariants.{Get, Put, Remove, Len, Count, Add, Take}
use Rattle.seq_model.specs.declared.call.Reply.{Reply}
use Rattle.seq_model.specs.declared.call.Reply.TheVariants.{Done, Nothing, Number, Value, Yes}
use Rattle.seq_model.specs.declared.limits.TheConstants.{COPY_LIMIT}
use Rattle.seq_model.specs.Calls.{value_reply}
use Rattle.seq_model.specs.Counts.{copies}
use Rattle.conflict.specs.declared.change.Change.{Change}
use Rattle.conflict.specs.declared.change.Change.TheVariants as change
use Rattle.conflict.specs.declared.outcome.Outcome.{Outcome}
use Rattle.conflict.specs.declared.outcome.Note.TheVariants.{Plain}
use Rattle.conflict.specs.Counts.{stripe_counts}
use Rattle.conflict.specs.Rules.{applied}
use Rattle.base_map.specs.Conflicts as map
use Rattle.base_bag.specs.Conflicts as bag
use Rattle.replay_log.specs.declared.base.Base.{Base}
use Rattle.replay_log.specs.declared.base.Base.TheVariants as base
use Rattle.replay_log.specs.Base.{Shown, OfMap, OfBag, changes_of, outcome_of, shown_of, stripes_of, writes_of}
use Rattle.replay_log.specs.Parts.{kind_of}
use Rattle.replay_log.specs.declared.touch.TouchedKey.{TouchedKey}
use Rattle.replay_log.specs.declared.touch.TouchedKey.TheVariants.{Entry, Copies, Counts, Total}
use Rattle.seq_model.specs.declared.kind.Kind.{Kind}
use Rattle.seq_model.specs.declared.kind.Kind.TheVariants as any_kind
use Rattle.shadow.specs.declared.memo.MemoKind.{MemoKind}
use Rattle.shadow.specs.declared.memo.MemoKind.TheVariants as kind
use Rattle.replay_log.specs.Log.{LogView}
use Rattle.shadow.specs.Shadow.{Ready}

pub record MemoView (V : Type 0) : Type 0 where
  pub blank : Base V  -- an empty collection of the kind and stripes
  pub entries : FinMap nat_cmp (Option V)  -- of a map, the keys held, each with its value after the accepted changes, if it has one
  pub copies : FinMap nat_cmp ℕ  -- of a multiset, the elements held, each with its copies after the accepted changes
  pub total : Option ℕ  -- of a map, the number of its keys before the accepted changes, if it was touched
  pub grown : ℕ  -- so many keys were new to it
  pub shrunk : ℕ  -- and so many were taken out of it
  pub changes : List (Change V)  -- the accepted changes, in order
  pub locations : List ℕ  -- the locations with which they were accepted
  pub ready : Option (Ready V)

-- a collection shows now what is known of each key, and each other key as it did before
abbrev pub IsKnown : {C A : Type 0} → (C → ℕ → A) → FinMap nat_cmp A → (before now : C) → Type 0
IsKnown {C} {A} look known before now =
    ((k : ℕ) (a : A) → get known k ≡ Some a → look now k ≡ a) × ((k : ℕ) → get known k ≡ None → look now k ≡ look before k)

abbrev pub has_key : {A : Type 0} → FinMap nat_cmp A → ℕ → Bool
has_key known k = is_some (get known k)

-- one copy more, up to the limit
abbrev pub counted_up : ℕ → ℕ
counted_up n = if nat_lt n COPY_LIMIT then suc n else n

-- with one key more; a key that is held keeps what is known of it
abbrev pub with_key : {A : Type 0} → FinMap nat_cmp A → ℕ → A → FinMap nat_cmp A
with_key known k a = if has_key known k then known else insert known k a

-- with the number of all keys; a total that is held remains
abbrev pub with_number : ℕ → Option ℕ → Option ℕ
with_number n None = Some n
with_number n (Some total) = Some total

-- a total is one that a memory could hold
abbrev pub IsTold : Option ℕ → Type 0
IsTold None = ⊤
IsTold (Some total) = total < 2 ^ 63

-- a call on a collection of the kind touches single keys
abbrev pub HasKeys : Kind → Type 0
HasKeys any_kind.Map = ⊤
HasKeys any_kind.Bag = ⊤
HasKeys k = ⊥

-- the room of the table of the kind
abbrev pub kind_room : MemoKind → (entries copies : ℕ) → ℕ
kind_room kind.Map entries copies = entries
kind_room kind.Bag entries copies = copies

module _ {V : Type 0} where
  abbrev pub shape : MemoKind → Shown V
  shape kind.Map = OfMap empty
  shape kind.Bag = OfBag empty

  -- an empty collection of this kind in n stripes
  abbrev pub blank_of : MemoKind → (n : ℕ) → Base V
  blank_of kind.Map n = base.Map (record { shown = empty; stripes = n; editions = replicate n 0; room = 0 })
  blank_of kind.Bag n = base.Bag (record { shown = empty; stripes = n; editions = replicate n 0; room = 0 })

  -- the key of the call is held
  abbrev pub holds_by : Shown V → FinMap nat_cmp (Option V) → FinMap nat_cmp ℕ → Op V → Bool
  holds_by (OfMap b) es cs (Get k) = has_key es k
  holds_by (OfMap b) es cs (Put k v) = has_key es k
  holds_by (OfMap b) es cs (Remove k) = has_key es k
  holds_by (OfBag b) es cs (Count x) = has_key cs x
  holds_by (OfBag b) es cs (Add x) = has_key cs x
  holds_by (OfBag b) es cs (Take x) = has_key cs x
  holds_by s es cs op = false

  -- what the call touches is held
  abbrev pub holds_with : Shown V → FinMap nat_cmp (Option V) → FinMap nat_cmp ℕ → Option ℕ → Op V → Bool
  holds_with (OfMap b) es cs total Len = is_some total
  holds_with b es cs total op = holds_by b es cs op

  abbrev pub holds : MemoView V → Op V → Bool
  holds m op = holds_with (shown_of m.blank) m.entries m.copies m.total op

  -- with what was touched
  abbrev pub with_entry : TouchedKey V → FinMap nat_cmp (Option V) → FinMap nat_cmp (Option V)
  with_entry (Entry k o) es = with_key es k o
  with_entry t es = es

  abbrev pub with_count : TouchedKey V → FinMap nat_cmp ℕ → FinMap nat_cmp ℕ
  with_count (Copies x n) cs = with_key cs x n
  with_count t cs = cs

  abbrev pub with_total : TouchedKey V → Option ℕ → Option ℕ
  with_total (Counts cs) total = with_number (sum cs) total
  with_total (Total n) total = with_number n total
  with_total t total = total

  -- without what a call touches
  abbrev pub entries_without : Op V → FinMap nat_cmp (Option V) → FinMap nat_cmp (Option V)
  entries_without (Get k) es = remove es k
  entries_without (Put k v) es = remove es k
  entries_without (Remove k) es = remove es k
  entries_without op es = es

  abbrev pub copies_without : Op V → FinMap nat_cmp ℕ → FinMap nat_cmp ℕ
  copies_without (Count x) cs = remove cs x
  copies_without (Add x) cs = remove cs x
  copies_without (Take x) cs = remove cs x
  copies_without op cs = cs

  abbrev pub total_without : Op V → Option ℕ → Option ℕ
  total_without Len total = None
  total_without op total = total

  -- what was touched is what the collection shows there, in n stripes
  abbrev pub IsShown : ℕ → TouchedKey V → Shown V → Type 0
  IsShown n (Entry k o) (OfMap m) = get m k ≡ o
  IsShown n (Counts cs) (OfMap m) = cs ≡ stripe_counts n m
  IsShown n (Total t) (OfMap m) = len m ≡ t
  IsShown n (Copies x c) (OfBag m) = copies m x ≡ c
  IsShown n t s = ⊥

  -- the keys held were touched of this collection: after the accepted changes it shows what the memo keeps of them
  abbrev pub IsOfBy : Shown V → FinMap nat_cmp (Option V) → FinMap nat_cmp ℕ → List (Change V) → Shown V → Type 0
  IsOfBy (OfMap b) es cs changes (OfMap m) = IsKnown get es m (applied (map.rules V) changes m)
  IsOfBy (OfBag b) es cs changes (OfBag m) = IsKnown copies cs m (applied (bag.rules V) changes m)
  IsOfBy b es cs changes s = ⊥

  -- the changes made so many keys new to the map and took so many out of it, and so many were there before them
  abbrev pub IsCounted : Option ℕ → (grown shrunk : ℕ) → (before now : FinMap nat_cmp V) → Type 0
  IsCounted total grown shrunk before now =
      (len now + shrunk ≡ len before + grown) × ((t : ℕ) → total ≡ Some t → len before ≡ t)

  abbrev pub IsCountedBy : Shown V → Option ℕ → (grown shrunk : ℕ) → List (Change V) → Shown V → Type 0
  IsCountedBy (OfMap b) total grown shrunk changes (OfMap m) = IsCounted total grown shrunk m (applied (map.rules V) changes m)
  IsCountedBy (OfMap b) total grown shrunk changes s = ⊥
  IsCountedBy b total grown shrunk changes s = ⊤

  -- of one kind, with the same answer to each call whose key is held
  abbrev pub IsAlike : Shown V → FinMap nat_cmp (Option V) → FinMap nat_cmp ℕ → Option ℕ → Shown V → Shown V → Type 0
  IsAlike b es cs total s t =
      (kind_of t ≡ kind_of s) × ((op : Op V) → holds_with b es cs total op ≡ true → outcome_of op t ≡ outcome_of op s)

  -- what is kept was touched of this collection: it holds of each that answers alike what is held
  abbrev pub IsCopyBy : Shown V → FinMap nat_cmp (Option V) → FinMap nat_cmp ℕ → Option ℕ → (grown shrunk : ℕ) → List (Change V)
      → Shown V → Type 0
  IsCopyBy b es cs total grown shrunk changes s =
      (t : Shown V) → IsAlike b es cs total s t → IsOfBy b es cs changes t × IsCountedBy b total grown shrunk changes t

  -- what an outcome changes and writes there is ready
  abbrev pub IsReadyFor : Outcome V → MemoView V → Type 0
  IsReadyFor outcome m =
      m.ready ≡ Some (record {
        changes = changes_of outcome (shown_of m.blank);
        locations = writes_of (stripes_of m.blank) outcome (shown_of m.blank);
      })

  -- what the keys held answer; those of a multiset answer as a multiset of their own
  abbrev pub entry_outcome : Op V → Option V → Outcome V
  entry_outcome op o = record { op = op; reply = value_reply o; note = Plain }

  abbrev pub known_entry : FinMap nat_cmp (Option V) → ℕ → Option V
  known_entry es k = unwrap_or (get es k) None

  abbrev pub map_answer : Op V → FinMap nat_cmp (Option V) → Option (Outcome V)
  map_answer (Get k) es = Some (entry_outcome (Get k) (known_entry es k))
  map_answer (Put k v) es = Some (entry_outcome (Put k v) (known_entry es k))
  map_answer (Remove k) es = Some (entry_outcome (Remove k) (known_entry es k))
  map_answer op es = None

  -- a put, and what it changes
  abbrev pub put_of : ℕ → V → Op V
  put_of k v = Put k v

  abbrev pub put_as : ℕ → V → Change V
  put_as k v = change.Put k v

  -- what is kept after an outcome of a map's keys, and of a multiset's elements
  abbrev pub entries_after : Op V → Reply V → FinMap nat_cmp (Option V) → FinMap nat_cmp (Option V)
  entries_after (Put k v) r es = insert es k (Some v)
  entries_after (Remove k) (Value old) es = insert es k None
  entries_after op r es = es

  abbrev pub copies_after : Op V → Reply V → FinMap nat_cmp ℕ → FinMap nat_cmp ℕ
  copies_after (Add x) Done cs = insert cs x (counted_up (copies cs x))
  copies_after (Take x) Yes cs = insert cs x (copies cs x - 1)
  copies_after op r cs = cs

  -- how many keys there are now, and what is kept of that after an outcome
  abbrev pub len_outcome : Option ℕ → (grown shrunk : ℕ) → Outcome V
  len_outcome total grown shrunk = record { op = Len; reply = Number (unwrap_or total 0 + grown - shrunk); note = Plain }

  abbrev pub grown_after : Op V → Reply V → ℕ → ℕ
  grown_after (Put k v) Nothing grown = suc grown
  grown_after op r grown = grown

  abbrev pub shrunk_after : Op V → Reply V → ℕ → ℕ
  shrunk_after (Remove k) (Value old) shrunk = suc shrunk
  shrunk_after op r shrunk = shrunk

  -- by the kind
  abbrev pub answer_by : Shown V → FinMap nat_cmp (Option V) → FinMap nat_cmp ℕ → Op V → Option (Outcome V)
  answer_by (OfMap b) es cs op = map_answer op es
  answer_by (OfBag b) es cs op = bag.outcome_of op cs
  answer_by b es cs op = None

  abbrev pub answer_with : Shown V → FinMap nat_cmp (Option V) → FinMap nat_cmp ℕ → Option ℕ → (grown shrunk : ℕ) → Op V
      → Option (Outcome V)
  answer_with (OfMap b) es cs total grown shrunk Len = Some (len_outcome total grown shrunk)
  answer_with b es cs total grown shrunk op = answer_by b es cs op

  abbrev pub entries_kept : Shown V → Outcome V → FinMap nat_cmp (Option V) → FinMap nat_cmp (Option V)
  entries_kept (OfMap b) o es = entries_after o.op o.reply es
  entries_kept b o es = es

  abbrev pub copies_kept : Shown V → Outcome V → FinMap nat_cmp ℕ → FinMap nat_cmp ℕ
  copies_kept (OfBag b) o cs = copies_after o.op o.reply cs
  copies_kept b o cs = cs

  abbrev pub grown_kept : Shown V → Outcome V → ℕ → ℕ
  grown_kept (OfMap b) o grown = grown_after o.op o.reply grown
  grown_kept b o grown = grown

  abbrev pub shrunk_kept : Shown V → Outcome V → ℕ → ℕ
  shrunk_kept (OfMap b) o shrunk = shrunk_after o.op o.reply shrunk
  shrunk_kept b o shrunk = shrunk

  -- the log has room for what is ready; without a location it is nothing
  abbrev pub HasPlace : LogView V → Option (Change V) → Option ℕ → Type 0
  HasPlace log change None = change ≡ None
  HasPlace log change (Some location) = (0 < log.room) × (length log.locations < log.places)

  -- there is room for what is ready, and its keys can be counted
  abbrev pub IsKept : MemoKind → (entries copies grown shrunk : ℕ) → LogView V → Bool → Option (Change V) → Option ℕ → Type 0
  IsKept k entries copies grown shrunk log false change written = ⊤
  IsKept k entries copies grown shrunk log true change written =
      (0 < kind_room k entries copies) × HasPlace log change written × (grown < 2 ^ 63) × (shrunk < 2 ^ 63)
