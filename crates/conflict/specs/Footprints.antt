-- The conflict table: what the outcome of a call reads and writes, for each kind of collection in n stripes. The call, its reply
-- and its note decide the row, and a row that is not named reads or writes nothing. Locations count from 0.
use Rattle.std.specs.Prelude.{ℕ, suc, ◌%◌, List, [], ◌∷◌}
use Rattle.std.specs.List.{range_with_len}
use Rattle.seq_model.specs.declared.call.Op.{Op}
use Rattle.seq_model.specs.declared.call.Op.TheVariants.{Get, Put, Remove, Len, Count, Add, Take, Least, Insert, TakeLeast, Enqueue}
use Rattle.seq_model.specs.declared.call.Op.TheVariants.{Dequeue, Peek}
use Rattle.seq_model.specs.declared.call.Reply.{Reply}
use Rattle.seq_model.specs.declared.call.Reply.TheVariants.{Done, Value, Found, Yes}
use Rattle.conflict.specs.declared.outcome.Note.{Note}
use Rattle.conflict.specs.declared.outcome.Note.TheVariants as note

abbrev pub all_below : ℕ → List ℕ
all_below n = range_with_len 0 n

-- ---- a map and a multiset: the stripes of their keys
abbrev pub key_location : ℕ → ℕ → ℕ
key_location n key = key % n

abbrev pub map_reads : {V : Type 0} → ℕ → Op V → List ℕ
map_reads n (Get k) = key_location n k ∷ []
map_reads n (Put k v) = key_location n k ∷ []
map_reads n (Remove k) = key_location n k ∷ []
map_reads n Len = all_below n
map_reads n _ = []

abbrev pub map_writes : {V : Type 0} → ℕ → Op V → Reply V → List ℕ
map_writes n (Put k v) r = key_location n k ∷ []
map_writes n (Remove k) (Value old) = key_location n k ∷ []
map_writes n _ _ = []

abbrev pub multiset_reads : {V : Type 0} → ℕ → Op V → List ℕ
multiset_reads n (Count x) = key_location n x ∷ []
multiset_reads n (Add x) = key_location n x ∷ []
multiset_reads n (Take x) = key_location n x ∷ []
multiset_reads n _ = []

abbrev pub multiset_writes : {V : Type 0} → ℕ → Op V → Reply V → List ℕ
multiset_writes n (Add x) Done = key_location n x ∷ []
multiset_writes n (Take x) Yes = key_location n x ∷ []
multiset_writes n _ _ = []

-- ---- a priority queue: its least element, and then the stripes of its elements
abbrev pub least_location : ℕ
least_location = 0

abbrev pub stripe_location : ℕ → ℕ → ℕ
stripe_location n x = suc (x % n)

-- TakeLeast reads every stripe, since what it leaves as the least may be on any: a second one in the same transaction would otherwise miss
-- an insert between the two that writes its stripe alone
abbrev pub priority_queue_reads : {V : Type 0} → ℕ → Op V → Reply V → List ℕ
priority_queue_reads n Least r = least_location ∷ []
priority_queue_reads n (Insert x) r = least_location ∷ stripe_location n x ∷ []
priority_queue_reads n TakeLeast (Found x) = all_below (suc n)
priority_queue_reads n TakeLeast _ = least_location ∷ []
priority_queue_reads n _ _ = []

-- the note of an insert says whether it makes a new least element
abbrev pub priority_queue_writes : {V : Type 0} → ℕ → Op V → Reply V → Note → List ℕ
priority_queue_writes n (Insert x) Done (note.Least first) = least_location ∷ stripe_location n x ∷ []
priority_queue_writes n (Insert x) Done _ = stripe_location n x ∷ []
priority_queue_writes n TakeLeast (Found x) _ = least_location ∷ stripe_location n x ∷ []
priority_queue_writes n _ _ _ = []

-- ---- a queue: its head, its tail, and then the stripes of its cells, by the indexes of the items
abbrev pub head_location : ℕ
head_location = 0

abbrev pub tail_location : ℕ
tail_location = 1

abbrev pub cell_location : ℕ → ℕ → ℕ
cell_location n index = suc (suc (index % n))

-- the note says at which index the call looked; an Enqueue that is Full looked at none
abbrev pub queue_reads : {V : Type 0} → ℕ → Op V → Note → List ℕ
queue_reads n (Enqueue x) (note.Index t) = tail_location ∷ cell_location n t ∷ []
queue_reads n (Enqueue x) _ = tail_location ∷ []
queue_reads n Dequeue (note.Index h) = head_location ∷ cell_location n h ∷ []
queue_reads n Peek (note.Index h) = head_location ∷ cell_location n h ∷ []
queue_reads n Len _ = head_location ∷ tail_location ∷ []
queue_reads n _ _ = []

abbrev pub queue_writes : {V : Type 0} → ℕ → Op V → Reply V → Note → List ℕ
queue_writes n (Enqueue x) Done (note.Index t) = tail_location ∷ cell_location n t ∷ []
queue_writes n Dequeue (Found x) (note.Index h) = head_location ∷ cell_location n h ∷ []
queue_writes n _ _ _ = []
