-- The conflict table, computed row by row: what each outcome reads and writes in four stripes, and nothing beside it. Key 6 is on stripe 2.
use Rattle.std.specs.Prelude.{◌≡◌, ℕ, Some, None, List, [], ◌∷◌, refl}
use Rattle.seq_model.specs.declared.call.Op.{Op}
use Rattle.seq_model.specs.declared.call.Op.TheVariants.{Get, Put, Remove, Len, Count, Add, Take, Least, Insert, TakeLeast, Enqueue}
use Rattle.seq_model.specs.declared.call.Op.TheVariants.{Dequeue, Peek}
use Rattle.seq_model.specs.declared.call.Reply.{Reply}
use Rattle.seq_model.specs.declared.call.Reply.TheVariants.{Done, Full, Nothing, Value, Found, Number, Yes, No}
use Rattle.conflict.specs.declared.outcome.Note.{Note}
use Rattle.conflict.specs.declared.outcome.Note.TheVariants as note
use Rattle.conflict.specs.Footprints.{map_reads, map_writes, multiset_reads, multiset_writes, priority_queue_reads, priority_queue_writes}
use Rattle.conflict.specs.Footprints.{queue_reads, queue_writes}

-- the locations read, and those written
abbrev Footprint : Type 0
Footprint = List ℕ × List ℕ

abbrev on_map : Op ℕ → Reply ℕ → Footprint
on_map op r = (map_reads 4 op, map_writes 4 op r)

abbrev on_multiset : Op ℕ → Reply ℕ → Footprint
on_multiset op r = (multiset_reads 4 op, multiset_writes 4 op r)

abbrev on_priority_queue : Op ℕ → Reply ℕ → Note → Footprint
on_priority_queue op r n = (priority_queue_reads 4 op r, priority_queue_writes 4 op r n)

abbrev on_queue : Op ℕ → Reply ℕ → Note → Footprint
on_queue op r n = (queue_reads 4 op n, queue_writes 4 op r n)

abbrev all : List ℕ
all = 0 ∷ 1 ∷ 2 ∷ 3 ∷ []

get_key : on_map (Get 6) (Value 60) ≡ (2 ∷ [], [])
get_key = refl

get_absent : on_map (Get 6) Nothing ≡ (2 ∷ [], [])
get_absent = refl

put_new : on_map (Put 6 60) Nothing ≡ (2 ∷ [], 2 ∷ [])
put_new = refl

put_over : on_map (Put 6 60) (Value 50) ≡ (2 ∷ [], 2 ∷ [])
put_over = refl

remove_present : on_map (Remove 6) (Value 60) ≡ (2 ∷ [], 2 ∷ [])
remove_present = refl

remove_absent : on_map (Remove 6) Nothing ≡ (2 ∷ [], [])
remove_absent = refl

number_of_keys : on_map Len (Number 1) ≡ (all, [])
number_of_keys = refl

count : on_multiset (Count 6) (Number 1) ≡ (2 ∷ [], [])
count = refl

add : on_multiset (Add 6) Done ≡ (2 ∷ [], 2 ∷ [])
add = refl

add_full : on_multiset (Add 6) Full ≡ (2 ∷ [], [])
add_full = refl

take : on_multiset (Take 6) Yes ≡ (2 ∷ [], 2 ∷ [])
take = refl

take_absent : on_multiset (Take 6) No ≡ (2 ∷ [], [])
take_absent = refl

-- location 0 is the least element, and the stripes stand after it
least : on_priority_queue Least (Found 6) note.Plain ≡ (0 ∷ [], [])
least = refl

insert_least : on_priority_queue (Insert 6) Done (note.Least (Some 6)) ≡ (0 ∷ 3 ∷ [], 0 ∷ 3 ∷ [])
insert_least = refl

insert_above : on_priority_queue (Insert 6) Done note.Plain ≡ (0 ∷ 3 ∷ [], 3 ∷ [])
insert_above = refl

insert_full : on_priority_queue (Insert 6) Full note.Plain ≡ (0 ∷ 3 ∷ [], [])
insert_full = refl

take_least : on_priority_queue TakeLeast (Found 6) (note.Least None) ≡ (0 ∷ 1 ∷ 2 ∷ 3 ∷ 4 ∷ [], 0 ∷ 3 ∷ [])
take_least = refl

take_least_of_none : on_priority_queue TakeLeast Nothing note.Plain ≡ (0 ∷ [], [])
take_least_of_none = refl

-- location 0 is the head, location 1 the tail, and the stripes stand after both
enqueue : on_queue (Enqueue 60) Done (note.Index 6) ≡ (1 ∷ 4 ∷ [], 1 ∷ 4 ∷ [])
enqueue = refl

enqueue_full : on_queue (Enqueue 60) Full note.Plain ≡ (1 ∷ [], [])
enqueue_full = refl

dequeue : on_queue Dequeue (Found 60) (note.Index 6) ≡ (0 ∷ 4 ∷ [], 0 ∷ 4 ∷ [])
dequeue = refl

dequeue_of_none : on_queue Dequeue Nothing (note.Index 6) ≡ (0 ∷ 4 ∷ [], [])
dequeue_of_none = refl

peek : on_queue Peek (Found 60) (note.Index 6) ≡ (0 ∷ 4 ∷ [], [])
peek = refl

number_of_items : on_queue Len (Number 1) note.Plain ≡ (0 ∷ 1 ∷ [], [])
number_of_items = refl
