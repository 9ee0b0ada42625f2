-- Schedules worked by hand, computed by the definitions: what each event answers, and what is left.
use Rattle.std.specs.Prelude.{◌≡◌, ℕ, zero, suc, true, false, List, [], ◌∷◌, ◌++◌, refl}
use Rattle.vlock_word.specs.LockWord.{bits}
use Rattle.tx_sets.specs.Entries.{lookup, with_entry, locations}
use Rattle.tx_machine.specs.Actor.{Call, Read, Write, Place, Idle, Open, Broken, Undo}
use Rattle.tx_machine.specs.Requests.{Request, AskBegin, AskBeginRead, AskLock, AskStore, AskRelease, AskCancel, AskAbort, AskClose}
use Rattle.tx_machine.specs.Requests.{AskRead, AskWrite}
use Rattle.tx_machine.specs.World.{put, Record, comes_before, insert, World, Event, Ask, Step, happens, run, start}
use Rattle.tx_machine.specs.Notices.{Notice, Quiet, NoTransaction, Begun, Number, LockedAt, Written, Stored, Released, Cancelled, Closed}
use Rattle.tx_machine.specs.Notices.{Moved, Busy, Invalid, Exhausted, notice, reply}
use Rattle.tx_machine.specs.Opacity.{IsLegal, after, memory_at, memory_after, upto}
use Rattle.tx_machine.specs.Progress.{steps_left}

-- ---- events
-- n steps of an actor
abbrev steps : ℕ → ℕ → List Event
steps a zero = []
steps a (suc n) = Step a ∷ steps a n

-- a request, and n steps
abbrev asks : ℕ → Request → ℕ → List Event
asks a request n = Ask a request ∷ steps a n

abbrev begins : ℕ → List Event
begins a = asks a AskBegin 1

abbrev begins_read : ℕ → List Event
begins_read a = asks a AskBeginRead 1

abbrev reads : ℕ → ℕ → List Event
reads a l = asks a (AskRead l) 3

abbrev writes : ℕ → ℕ → ℕ → List Event
writes a l v = asks a (AskWrite l v) 0

-- the commit of an actor that has one location to write, and n to check
abbrev commits : ℕ → ℕ → List Event
commits a n = asks a AskLock 3 ++ steps a n ++ asks a AskStore 1 ++ asks a AskRelease 1

-- a whole transaction that writes one value
abbrev puts : ℕ → ℕ → ℕ → List Event
puts a l v = begins a ++ writes a l v ++ commits a 0

-- ---- what is seen of them
-- what each event answers
abbrev told : World → List Event → List Notice
told s [] = []
told s (Ask a request ∷ es) = reply (s.actors a) (s.actors a).place request ∷ told (happens s (Ask a request)) es
told s (Step a ∷ es) = notice s (s.actors a) (s.actors a).place ∷ told (happens s (Step a)) es

-- n answers that are still to come
abbrev quiet : ℕ → List Notice
quiet zero = []
quiet (suc n) = Quiet ∷ quiet n

-- n requests that the place lacks, each with a step after it
abbrev nothing : ℕ → List Notice
nothing zero = []
nothing (suc n) = Quiet ∷ NoTransaction ∷ nothing n

-- the clock, the lock words and the values of three locations
abbrev table : World → ℕ × List ℕ × List ℕ
table s = (s.clock, bits (s.locks 0) ∷ bits (s.locks 1) ∷ bits (s.locks 2) ∷ [], s.values 0 ∷ s.values 1 ∷ s.values 2 ∷ [])

-- three values, and 0 for all others
abbrev three : ℕ → ℕ → ℕ → ℕ → ℕ
three u v w zero = u
three u v w (suc zero) = v
three u v w (suc (suc zero)) = w
three u v w l = 0

abbrev opened : World
opened = start 0 (three 1 2 3)

-- where an actor stands after these events, with which calls
abbrev stands : List Event → ℕ → Place × List Call
stands es a = (((run es opened).actors a).place, ((run es opened).actors a).calls)

-- a writer, and a reader, as recorded
abbrev writer : ℕ → ℕ → List Call → Record
writer a n cs = record { actor = a; number = n; writer = true; calls = cs }

abbrev reader : ℕ → ℕ → List Call → Record
reader a n cs = record { actor = a; number = n; writer = false; calls = cs }

-- ---- one transaction
-- A read takes three loads the first time; then the read set answers it, and once the location is written, the write set.
abbrev fills : List Event
fills = begins 1 ++ reads 1 0 ++ asks 1 (AskRead 0) 0 ++ writes 1 1 5 ++ writes 1 1 6 ++ asks 1 (AskRead 1) 0 ++ writes 1 0 7
    ++ asks 1 (AskRead 0) 0

filled :
    told opened fills
    ≡ Quiet ∷ Begun 0 ∷ quiet 3 ++ Number 1 ∷ Number 1 ∷ Written ∷ Written ∷ Number 6 ∷ Written ∷ Number 7 ∷ []
unfolding lookup put with_entry locations comes_before insert
filled = refl

abbrev filled_calls : List Call
filled_calls = Read 0 1 ∷ Read 0 1 ∷ Write 1 5 ∷ Write 1 6 ∷ Read 1 6 ∷ Write 0 7 ∷ Read 0 7 ∷ []

filled_actor :
    (run fills opened).actors 1
    ≡ record {
      place = Open;
      declared = false;
      rv = 0;
      wv = 0;
      reads = (0, 1) ∷ [];
      writes = (0, 7) ∷ (1, 6)
          ∷ [];
      held = [];
      calls = filled_calls;
    }
unfolding lookup put with_entry locations comes_before insert
filled_actor = refl

-- Its commit: both locks, rising, by a load and an exchange each; the clock; both values; both locks back with the number.
first_lock : table (run (fills ++ asks 1 AskLock 2) opened) ≡ (0, 1 ∷ 0 ∷ 0 ∷ [], 1 ∷ 2 ∷ 3 ∷ [])
unfolding lookup put with_entry locations comes_before insert
first_lock = refl

both_locks : table (run (fills ++ asks 1 AskLock 5) opened) ≡ (1, 1 ∷ 1 ∷ 0 ∷ [], 1 ∷ 2 ∷ 3 ∷ [])
unfolding lookup put with_entry locations comes_before insert
both_locks = refl

first_value :
    table (run (fills ++ asks 1 AskLock 5 ++ asks 1 AskStore 1) opened) ≡ (1, 1 ∷ 1 ∷ 0 ∷ [], 7 ∷ 2 ∷ 3 ∷ [])
unfolding lookup put with_entry locations comes_before insert
first_value = refl

-- It is committed by its first value store.
committed_by_it : (run (fills ++ asks 1 AskLock 5 ++ asks 1 AskStore 1) opened).history ≡ writer 1 1 filled_calls ∷ []
unfolding lookup put with_entry locations comes_before insert
committed_by_it = refl

not_before : (run (fills ++ asks 1 AskLock 5 ++ asks 1 AskStore 0) opened).history ≡ []
unfolding lookup put with_entry locations comes_before insert
not_before = refl

first_release :
    table (run (fills ++ asks 1 AskLock 5 ++ asks 1 AskStore 2 ++ asks 1 AskRelease 1) opened) ≡ (1, 2 ∷ 1 ∷ 0 ∷ [], 7 ∷ 6 ∷ 3 ∷ [])
unfolding lookup put with_entry locations comes_before insert
first_release = refl

all_told :
    told (run fills opened) (asks 1 AskLock 5 ++ asks 1 AskStore 2 ++ asks 1 AskRelease 3)
    ≡ quiet 5 ++ LockedAt 1 ∷ quiet 2 ++ Stored ∷ quiet 2 ++ Released ∷ NoTransaction ∷ []
unfolding lookup put with_entry locations comes_before insert
all_told = refl

all_left : table (run (fills ++ asks 1 AskLock 5 ++ asks 1 AskStore 2 ++ asks 1 AskRelease 2) opened) ≡ (1, 2 ∷ 2 ∷ 0 ∷ [], 7 ∷ 6 ∷ 3 ∷ [])
unfolding lookup put with_entry locations comes_before insert
all_left = refl

-- ---- reads that are moved
-- A word that another has written since the begin: its version is above the snapshot.
moved_newer : told (run (begins 1 ++ puts 2 0 9) opened) (asks 1 (AskRead 0) 2 ++ asks 1 AskAbort 1) ≡ Quiet ∷ Moved 0 2 ∷ NoTransaction
    ∷ Quiet ∷ Closed ∷ []
unfolding lookup put with_entry locations comes_before insert
moved_newer = refl

-- One that another holds.
abbrev held_by_two : List Event
held_by_two = begins 2 ++ writes 2 0 9 ++ asks 2 AskLock 2

moved_locked : told (run (begins 1 ++ reads 1 1 ++ held_by_two) opened) (asks 1 (AskRead 0) 2) ≡ Quiet ∷ Moved 0 1 ∷ NoTransaction ∷ []
unfolding lookup put with_entry locations comes_before insert
moved_locked = refl

-- It ends with what it saw.
moved_ended :
    (run (puts 3 2 4 ++ begins 1 ++ writes 1 2 6 ++ reads 1 1 ++ held_by_two ++ asks 1 (AskRead 0) 1 ++ asks 1 AskAbort 1) opened).aborted
    ≡ record { actor = 1; rv = 1; calls = Write 2 6 ∷ Read 1 2 ∷ [] } ∷ []
unfolding lookup put with_entry locations comes_before insert
moved_ended = refl

-- One that changes between the two loads of its lock word: it is locked at the second, or has another version.
between_locked : told (run (begins 1 ++ asks 1 (AskRead 0) 1 ++ held_by_two) opened) (steps 1 3) ≡ Quiet ∷ Moved 0 1 ∷ NoTransaction ∷ []
unfolding lookup put with_entry locations comes_before insert
between_locked = refl

between_changed : told (run (begins 1 ++ asks 1 (AskRead 0) 1 ++ puts 2 0 9) opened) (steps 1 3) ≡ Quiet ∷ Moved 0 2 ∷ NoTransaction ∷ []
unfolding lookup put with_entry locations comes_before insert
between_changed = refl

-- What it loaded between is no reply.
between_locked_left : stands (begins 1 ++ asks 1 (AskRead 0) 1 ++ held_by_two ++ steps 1 2) 1 ≡ (Undo, [])
unfolding lookup put with_entry locations comes_before insert
between_locked_left = refl

between_changed_left : stands (begins 1 ++ asks 1 (AskRead 0) 1 ++ puts 2 0 9 ++ steps 1 2) 1 ≡ (Undo, [])
unfolding lookup put with_entry locations comes_before insert
between_changed_left = refl

-- ---- locks
-- A lock is busy where it is taken at its load; the others that were taken are released with their old versions, rising.
abbrev old_versions : List Event
old_versions = puts 3 0 4 ++ puts 3 1 5

abbrev three_to_lock : List Event
three_to_lock = begins 1 ++ writes 1 0 7 ++ writes 1 1 8 ++ writes 1 2 9

abbrev last_taken : List Event
last_taken = begins 2 ++ writes 2 2 6 ++ asks 2 AskLock 2

busy_at_load :
    told (run (old_versions ++ three_to_lock ++ last_taken) opened)
    (asks 1 AskLock 6 ++ asks 1 AskStore 0 ++ asks 1 AskCancel 2 ++ asks 1 AskAbort 1)
    ≡ quiet 5 ++ Busy 2 1 ∷ NoTransaction ∷ quiet 3 ++ Cancelled ∷ Quiet ∷ Closed ∷ []
unfolding lookup put with_entry locations comes_before insert
busy_at_load = refl

busy_keeps_locks : table (run (old_versions ++ three_to_lock ++ last_taken ++ asks 1 AskLock 5) opened)
    ≡ (2, 3 ∷ 5 ∷ 1 ∷ [], 4 ∷ 5 ∷ 3 ∷ [])
unfolding lookup put with_entry locations comes_before insert
busy_keeps_locks = refl

gives_first_back :
    table (run (old_versions ++ three_to_lock ++ last_taken ++ asks 1 AskLock 5 ++ asks 1 AskCancel 1) opened)
    ≡ (2, 2 ∷ 5 ∷ 1 ∷ [], 4 ∷ 5 ∷ 3 ∷ [])
unfolding lookup put with_entry locations comes_before insert
gives_first_back = refl

gives_all_back :
    table (run (old_versions ++ three_to_lock ++ last_taken ++ asks 1 AskLock 5 ++ asks 1 AskCancel 2) opened)
    ≡ (2, 2 ∷ 4 ∷ 1 ∷ [], 4 ∷ 5 ∷ 3 ∷ [])
unfolding lookup put with_entry locations comes_before insert
gives_all_back = refl

-- It is busy too where it was taken, or had another version, since its load. A cancel with no lock held is answered at once.
busy_at_exchange :
    told (run (begins 1 ++ writes 1 0 7 ++ asks 1 AskLock 1 ++ held_by_two) opened) (steps 1 2 ++ asks 1 AskCancel 0) ≡ Busy 0 1
    ∷ NoTransaction ∷ Cancelled ∷ []
unfolding lookup put with_entry locations comes_before insert
busy_at_exchange = refl

busy_by_both :
    told (run (begins 1 ++ writes 1 0 7 ++ asks 1 AskLock 1 ++ puts 2 0 9 ++ held_by_two) opened) (steps 1 1) ≡ Busy 0 3 ∷ []
unfolding lookup put with_entry locations comes_before insert
busy_by_both = refl

busy_by_version :
    told (run (begins 1 ++ writes 1 0 7 ++ asks 1 AskLock 1 ++ puts 2 0 9) opened) (steps 1 2 ++ asks 1 AskAbort 0) ≡ Busy 0 2
    ∷ NoTransaction ∷ Quiet ∷ []
unfolding lookup put with_entry locations comes_before insert
busy_by_version = refl

-- A refused lock ends by a cancel and then an abort, and by nothing else.
abbrev broken : World
broken = run (begins 1 ++ writes 1 0 7 ++ asks 1 AskLock 1 ++ puts 2 0 9 ++ steps 1 1) opened

broken_place : (broken.actors 1).place ≡ Broken
unfolding lookup put with_entry locations comes_before insert
broken_place = refl

broken_lacks :
    told broken (asks 1 AskAbort 1 ++ asks 1 AskStore 1 ++ asks 1 AskRelease 1 ++ asks 1 AskLock 1 ++ asks 1 AskClose 1
    ++ asks 1 AskBegin 1 ++ asks 1 AskCancel 0)
    ≡ nothing 6 ++ Cancelled ∷ []
unfolding lookup put with_entry locations comes_before insert
broken_lacks = refl

-- ---- checks
-- Write skew: the first committer has nothing to check, as it took the first number since it began; the second's check fails.
abbrev skew : List Event
skew = begins 1 ++ begins 2 ++ reads 1 0 ++ reads 1 1 ++ reads 2 0 ++ reads 2 1 ++ writes 1 0 0 ++ writes 2 1 0 ++ commits 1 0

skew_is_checked : told (run skew opened) (asks 2 AskLock 5) ≡ quiet 4 ++ Invalid 0 2 ∷ NoTransaction ∷ []
unfolding lookup put with_entry locations comes_before insert
skew_is_checked = refl

-- The clock keeps its advance, and the next commit takes the next number.
skew_left :
    table (run (skew ++ asks 2 AskLock 4 ++ asks 2 AskCancel 1 ++ asks 2 AskAbort 1 ++ puts 2 1 9) opened)
    ≡ (3, 2 ∷ 6 ∷ 0 ∷ [], 0 ∷ 9 ∷ 3 ∷ [])
unfolding lookup put with_entry locations comes_before insert
skew_left = refl

-- A word that another holds fails the check, though its version is old.
held_fails :
    told (run (begins 1 ++ reads 1 0 ++ writes 1 1 8 ++ puts 3 2 9 ++ held_by_two) opened) (asks 1 AskLock 5) ≡ quiet 4 ++ Invalid 0 1
    ∷ NoTransaction ∷ []
unfolding lookup put with_entry locations comes_before insert
held_fails = refl

-- One that the transaction itself has locked is judged by its old version: this one passes,
own_passes :
    told (run (begins 1 ++ reads 1 0 ++ reads 1 1 ++ writes 1 0 8 ++ puts 3 2 9) opened) (asks 1 AskLock 6) ≡ quiet 5 ++ LockedAt 2
    ∷ NoTransaction ∷ []
unfolding lookup put with_entry locations comes_before insert
own_passes = refl

-- and this one was written since.
own_fails : told (run (begins 1 ++ reads 1 0 ++ writes 1 0 8 ++ puts 3 0 9) opened) (asks 1 AskLock 5) ≡ quiet 4 ++ Invalid 0 3
    ∷ NoTransaction ∷ []
unfolding lookup put with_entry locations comes_before insert
own_fails = refl

-- A commit that fails its check stores nothing.
skew_breaks : stands (skew ++ asks 2 AskLock 4 ++ asks 2 AskStore 0) 2 ≡ (Broken, Read 0 1 ∷ Read 1 2 ∷ Write 1 0 ∷ [])
unfolding lookup put with_entry locations comes_before insert
skew_breaks = refl

held_breaks :
    stands (begins 1 ++ reads 1 0 ++ writes 1 1 8 ++ puts 3 2 9 ++ held_by_two ++ asks 1 AskLock 4) 1 ≡ (Broken, Read 0 1 ∷ Write 1 8 ∷ [])
unfolding lookup put with_entry locations comes_before insert
held_breaks = refl

own_breaks : stands (begins 1 ++ reads 1 0 ++ writes 1 0 8 ++ puts 3 0 9 ++ asks 1 AskLock 4) 1 ≡ (Broken, Read 0 1 ∷ Write 0 8 ∷ [])
unfolding lookup put with_entry locations comes_before insert
own_breaks = refl

-- The check comes after the clock: a commit that takes its number, stores and releases between two locks is found by it.
after_clock :
    told (run (begins 1 ++ reads 1 2 ++ writes 1 0 7 ++ writes 1 1 8 ++ asks 1 AskLock 2 ++ puts 2 2 6) opened) (steps 1 5) ≡ quiet 3
    ++ Invalid 2 2 ∷ NoTransaction ∷ []
unfolding lookup put with_entry locations comes_before insert
after_clock = refl

-- Where no other took a number there is no check; where one other did, of any location, there is.
quick : told (run (begins 1 ++ reads 1 0 ++ writes 1 1 5) opened) (asks 1 AskLock 4) ≡ quiet 3 ++ LockedAt 1 ∷ NoTransaction ∷ []
unfolding lookup put with_entry locations comes_before insert
quick = refl

not_quick : told (run (begins 1 ++ reads 1 0 ++ writes 1 1 5 ++ puts 2 2 9) opened) (asks 1 AskLock 5) ≡ quiet 4 ++ LockedAt 2
    ∷ NoTransaction ∷ []
unfolding lookup put with_entry locations comes_before insert
not_quick = refl

-- Nothing is stored before the check has ended.
no_store_before :
    told (run (begins 1 ++ reads 1 0 ++ writes 1 1 5 ++ puts 2 2 9 ++ asks 1 AskLock 3) opened) (asks 1 AskStore 1) ≡ Quiet ∷ LockedAt 2
    ∷ []
unfolding lookup put with_entry locations comes_before insert
no_store_before = refl

-- ---- declared readers
-- One loads a location anew each time, by three loads, and keeps neither set; a write or a lock is not for it.
abbrev declared : List Event
declared = begins_read 1 ++ reads 1 0 ++ reads 1 0 ++ writes 1 0 5 ++ asks 1 AskLock 0

declared_told : told opened declared ≡ Quiet ∷ Begun 0 ∷ quiet 3 ++ Number 1 ∷ quiet 3 ++ Number 1 ∷ Quiet ∷ Quiet ∷ []
unfolding lookup put with_entry locations comes_before insert
declared_told = refl

declared_actor :
    (run declared opened).actors 1
    ≡ record { place = Open; declared = true; rv = 0; wv = 0; reads = []; writes = []; held = []; calls = Read 0 1 ∷ Read 0 1 ∷ [] }
unfolding lookup put with_entry locations comes_before insert
declared_actor = refl

-- Once another commit has written it, the read is moved: at the first load,
declared_moved : told (run (declared ++ puts 2 0 9) opened) (asks 1 (AskRead 0) 2 ++ asks 1 AskAbort 1) ≡ Quiet ∷ Moved 0 2
    ∷ NoTransaction ∷ Quiet ∷ Closed ∷ []
unfolding lookup put with_entry locations comes_before insert
declared_moved = refl

-- or at the second, by its version or its lock.
declared_between : told (run (begins_read 1 ++ asks 1 (AskRead 0) 1 ++ puts 2 0 9) opened) (steps 1 3) ≡ Quiet ∷ Moved 0 2
    ∷ NoTransaction ∷ []
unfolding lookup put with_entry locations comes_before insert
declared_between = refl

declared_locked :
    told (run (begins_read 1 ++ asks 1 (AskRead 0) 1 ++ held_by_two ++ steps 2 1 ++ asks 2 AskStore 1) opened) (steps 1 3) ≡ Quiet
    ∷ Moved 0 1 ∷ NoTransaction ∷ []
unfolding lookup put with_entry locations comes_before insert
declared_locked = refl

declared_between_left : stands (begins_read 1 ++ asks 1 (AskRead 0) 1 ++ puts 2 0 9 ++ steps 1 2) 1 ≡ (Undo, [])
unfolding lookup put with_entry locations comes_before insert
declared_between_left = refl

declared_locked_left : stands (begins_read 1 ++ asks 1 (AskRead 0) 1 ++ held_by_two ++ steps 2 1 ++ asks 2 AskStore 1 ++ steps 1 2) 1
    ≡ (Undo, [])
unfolding lookup put with_entry locations comes_before insert
declared_locked_left = refl

-- It counts as of its begin, and the next transaction of its actor is none, unless it is asked for.
declared_closes : (run (declared ++ puts 2 1 9 ++ reads 1 0 ++ asks 1 AskClose 1) opened).history
    ≡ reader 1 0 (Read 0 1 ∷ Read 0 1 ∷ Read 0 1 ∷ []) ∷ writer 2 1 (Write 1 9 ∷ []) ∷ []
unfolding lookup put with_entry locations comes_before insert
declared_closes = refl

declared_once : ((run (declared ++ asks 1 AskClose 1 ++ puts 1 0 9) opened).actors 1).declared ≡ false
unfolding lookup put with_entry locations comes_before insert
declared_once = refl

-- ---- the order of records
-- By number; at one number the writer first, then readers by actor, then as made.
abbrev many : List Event
many =
    begins 5 ++ writes 5 0 4 ++ asks 5 AskLock 3 ++ begins 3 ++ asks 3 AskClose 1 ++ begins 2 ++ reads 2 2 ++ asks 2 AskClose 1
    ++ begins 2 ++ reads 2 1 ++ asks 2 AskClose 1
    ++ puts 4 1 6 ++ asks 5 AskStore 1 ++ asks 5 AskRelease 1

ordered :
    (run many opened).history
    ≡ writer 5 1 (Write 0 4 ∷ []) ∷ reader 2 1 (Read 2 3 ∷ []) ∷ reader 2 1 (Read 1 2 ∷ []) ∷ reader 3 1 [] ∷ writer 4 2 (Write 1 6 ∷ [])
    ∷ []
unfolding lookup put with_entry locations comes_before insert
ordered = refl

-- ---- ends
-- A reader commits by the load of the clock that ends it, at the number of its begin.
reader_closes : told (run (begins 1 ++ reads 1 0 ++ puts 2 1 9) opened) (asks 1 AskClose 2) ≡ Quiet ∷ Closed ∷ NoTransaction ∷ []
unfolding lookup put with_entry locations comes_before insert
reader_closes = refl

reader_at_its_begin : (run (begins 1 ++ reads 1 0 ++ puts 2 1 9 ++ asks 1 AskClose 1) opened).history ≡ reader 1 0 (Read 0 1 ∷ [])
    ∷ writer 2 1 (Write 1 9 ∷ []) ∷ []
unfolding lookup put with_entry locations comes_before insert
reader_at_its_begin = refl

-- A writer has no Close and a reader no Lock.
writer_has_no_close : ((run (begins 1 ++ writes 1 0 5 ++ asks 1 AskClose 1) opened).actors 1).place ≡ Open
unfolding lookup put with_entry locations comes_before insert
writer_has_no_close = refl

reader_has_no_lock : ((run (begins 1 ++ reads 1 0 ++ asks 1 AskLock 1) opened).actors 1).place ≡ Open
unfolding lookup put with_entry locations comes_before insert
reader_has_no_lock = refl

-- An abort in place of an unanswered read, close or begin; of a begin it is answered at once, and no transaction was open.
abort_of_read :
    told (run (begins 1) opened)
    (asks 1 (AskRead 0) 0 ++ asks 1 AskAbort 1 ++ begins 1 ++ asks 1 (AskRead 0) 1 ++ asks 1 AskAbort 1 ++ begins 1 ++ asks 1 (AskRead 0) 2
    ++ asks 1 AskAbort 2)
    ≡ quiet 2 ++ Closed ∷ Quiet ∷ Begun 0 ∷ quiet 3 ++ Closed ∷ Quiet ∷ Begun 0 ∷ quiet 4 ++ Closed ∷ NoTransaction ∷ []
unfolding lookup put with_entry locations comes_before insert
abort_of_read = refl

abort_of_close : (run (begins 1 ++ reads 1 0 ++ asks 1 AskClose 0 ++ asks 1 AskAbort 1) opened).history ≡ []
unfolding lookup put with_entry locations comes_before insert
abort_of_close = refl

abort_of_begin : told opened (asks 1 AskBegin 0 ++ asks 1 AskAbort 1) ≡ Quiet ∷ Closed ∷ NoTransaction ∷ []
unfolding lookup put with_entry locations comes_before insert
abort_of_begin = refl

-- A cancel in place of an unanswered lock is answered at once where none is held, before the first load and after it.
cancel_of_none :
    told (run three_to_lock opened) (asks 1 AskLock 0 ++ asks 1 AskCancel 1 ++ asks 1 AskAbort 1) ≡ quiet 1 ++ Cancelled ∷ NoTransaction
    ∷ Quiet ∷ Closed ∷ []
unfolding lookup put with_entry locations comes_before insert
cancel_of_none = refl

cancel_of_first :
    told (run three_to_lock opened) (asks 1 AskLock 1 ++ asks 1 AskCancel 1 ++ asks 1 AskAbort 1) ≡ quiet 2 ++ Cancelled ∷ NoTransaction
    ∷ Quiet ∷ Closed ∷ []
unfolding lookup put with_entry locations comes_before insert
cancel_of_first = refl

-- Else it gives back what was taken; in place of a lock that is answered, all of them.
cancel_of_lock :
    told (run (three_to_lock ++ asks 1 AskLock 3) opened) (asks 1 AskCancel 1 ++ asks 1 AskAbort 1) ≡ Quiet ∷ Cancelled ∷ Quiet ∷ Closed
    ∷ []
unfolding lookup put with_entry locations comes_before insert
cancel_of_lock = refl

cancel_of_locked : table (run (old_versions ++ three_to_lock ++ asks 1 AskLock 7 ++ asks 1 AskCancel 3 ++ asks 1 AskAbort 1) opened)
    ≡ (3, 2 ∷ 4 ∷ 0 ∷ [], 4 ∷ 5 ∷ 3 ∷ [])
unfolding lookup put with_entry locations comes_before insert
cancel_of_locked = refl

cancel_told :
    told (run (three_to_lock ++ asks 1 AskLock 7) opened) (asks 1 AskCancel 3 ++ asks 1 AskAbort 1) ≡ quiet 3 ++ Cancelled ∷ Quiet
    ∷ Closed ∷ []
unfolding lookup put with_entry locations comes_before insert
cancel_told = refl

-- An abort while a lock is held does nothing.
abort_holds : told (run (three_to_lock ++ asks 1 AskLock 2 ++ asks 1 AskCancel 0) opened) (asks 1 AskAbort 1) ≡ Quiet ∷ Cancelled ∷ []
unfolding lookup put with_entry locations comes_before insert
abort_holds = refl

-- Those that end so are listed in the order of their ends.
two_aborted :
    (run (begins 1 ++ asks 1 AskAbort 1 ++ puts 3 2 4 ++ begins 2 ++ asks 2 AskAbort 1) opened).aborted
    ≡ record { actor = 1; rv = 0; calls = [] } ∷ record { actor = 2; rv = 1; calls = [] } ∷ []
unfolding lookup put with_entry locations comes_before insert
two_aborted = refl

-- Three values are stored by three steps, and three locks given back; no release before the last value.
three_told :
    told (run three_to_lock opened) (asks 1 AskLock 7 ++ asks 1 AskStore 3 ++ asks 1 AskRelease 3)
    ≡ quiet 7 ++ LockedAt 1 ∷ quiet 3 ++ Stored ∷ quiet 3 ++ Released ∷ []
unfolding lookup put with_entry locations comes_before insert
three_told = refl

no_release_before : told (run (fills ++ asks 1 AskLock 5 ++ asks 1 AskStore 1) opened) (asks 1 AskRelease 1) ≡ Quiet ∷ Stored ∷ []
unfolding lookup put with_entry locations comes_before insert
no_release_before = refl

-- After the first value store there is neither cancel nor abort.
stored_goes_on : table (run (fills ++ asks 1 AskLock 5 ++ asks 1 AskStore 1 ++ asks 1 AskCancel 1 ++ asks 1 AskAbort 1
    ++ asks 1 AskRelease 1) opened)
    ≡ (1, 2 ∷ 1 ∷ 0 ∷ [], 7 ∷ 6 ∷ 3 ∷ [])
unfolding lookup put with_entry locations comes_before insert
stored_goes_on = refl

-- ---- the last numbers
begins_below_the_limit : told (start 4611686018427387903 (three 1 2 3)) (begins 1) ≡ Quiet ∷ Begun 4611686018427387903 ∷ []
unfolding put
begins_below_the_limit = refl

none_at_the_limit : told (start 4611686018427387904 (three 1 2 3)) (begins 1 ++ steps 1 1) ≡ Quiet ∷ Exhausted 4611686018427387904
    ∷ NoTransaction ∷ []
unfolding put
none_at_the_limit = refl

rests_at_the_limit : ((run (begins 1) (start 4611686018427387904 (three 1 2 3))).actors 1).place ≡ Idle
unfolding put
rests_at_the_limit = refl

-- ---- what a request has still to do
left_to_do : (steps_left ((run (three_to_lock ++ asks 1 AskLock 0) opened).actors 1)
    ((run (three_to_lock ++ asks 1 AskLock 0) opened).actors 1).place) ≡ 7
unfolding lookup put with_entry locations comes_before insert
left_to_do = refl

-- ---- memories
-- What the records leave, up to a number.
after_one : memory_at (run many opened) 1 1 ≡ 2
unfolding lookup put with_entry locations comes_before insert memory_at memory_after after upto
after_one = refl

after_two : memory_at (run many opened) 2 1 ≡ 6
unfolding lookup put with_entry locations comes_before insert memory_at memory_after after upto
after_two = refl

-- A read that replied something else than stood there isn't legal, also of a word that the calls have written.
replied_another : IsLegal (three 1 2 3) (Read 0 2 ∷ []) → ⊥
unfolding IsLegal
replied_another h = (let b : ⊥ = cc in b)

replied_before : IsLegal (three 1 2 3) (Write 0 5 ∷ (Read 0 1 ∷ [])) → ⊥
unfolding IsLegal put
replied_before h = (let b : ⊥ = cc in b)
