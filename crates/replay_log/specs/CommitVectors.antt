-- Schedules of commits, computed by the definitions: how many steps they take, what a commit that stops leaves, and what one leaves that is
-- refused.
use Rattle.std.specs.Prelude.{◌≡◌, ℕ, true, false, List, [], ◌∷◌, Some, refl}
use Rattle.tx_sets.specs.Entries.{lookup, with_entry, locations}
use Rattle.tx_machine.specs.World.{put, comes_before, insert}
use Rattle.seq_model.specs.declared.call.Op.TheVariants.{Read, Write, Get, Put, Peek, Enqueue}
use Rattle.seq_model.specs.declared.refusal.Refusal.TheVariants.{Moved, Invalid, GateBusy, Memory as OutOfMemory, NotIdle, NoTransaction}
use Rattle.seq_model.specs.declared.event.Request.TheVariants as request
use Rattle.tx_machine.specs.Boosted.{insert_commit}
use Rattle.replay_log.specs.WorldScripts.{Told, Begun, Committed, Replied, Aborted, IsRefused, Asks, Steps, Starves, Lost, Left, told}
use Rattle.replay_log.specs.WorldScripts.{leaves}
use Rattle.replay_log.specs.WorldScripts.{begins, calls, asks_call, commits, asks_commit, goes_on}
use Rattle.replay_log.specs.WorldScripts.{a_map, two_stripes, two_maps, two_words, word_and_map, word_and_queue}

-- two that read and put one key: the second commit finds its lock's own old version newer than its transaction
one_key :
    leaves (begins 1 ∷ begins 2 ∷ calls 1 0 (Get 5) ∷ calls 2 0 (Get 5) ∷ calls 1 0 (Put 5 2) ∷ calls 2 0 (Put 5 3) ∷ commits 1
    ∷ commits 2 ∷ []) a_map
    ≡ record {
      told = Begun 1 0 ∷ Begun 2 0 ∷ Replied 1 ∷ Replied 2 ∷ Replied 1 ∷ Replied 2 ∷ Committed 1 1 ∷ IsRefused 2 (Invalid 0 3) ∷ [];
      records = record { actor = 1; number = 1; writes = true; calls = 2 } ∷ [];
      aborted = record { actor = 2; rv = 0; calls = 2; cause = Some (Invalid 0 3) } ∷ [];
      half = [];
      words = [];
    }
unfolding lookup put with_entry locations comes_before insert insert_commit
one_key = refl

-- two whose keys are on different stripes both commit
two_keys :
    told (begins 1 ∷ begins 2 ∷ calls 1 0 (Put 1 10) ∷ calls 2 0 (Put 2 20) ∷ asks_commit 1 ∷ asks_commit 2
    ∷ Steps 1 3 ∷ Steps 2 3 ∷ goes_on 1 ∷ goes_on 2 ∷ []) two_stripes
    ≡ Begun 1 0 ∷ Begun 2 0 ∷ Replied 1 ∷ Replied 2 ∷ Committed 1 1 ∷ Committed 2 2 ∷ []
unfolding lookup put with_entry locations comes_before insert insert_commit
two_keys = refl

-- a reader is recorded at the number that it began with, before a writer that committed in between
reader_first :
    leaves (begins 1 ∷ calls 1 0 Peek ∷ begins 2 ∷ calls 2 0 (Enqueue 4) ∷ commits 2 ∷ commits 1 ∷ []) (word_and_queue 1 [])
    ≡ record {
      told = Begun 1 0 ∷ Replied 1 ∷ Begun 2 0 ∷ Replied 2 ∷ Committed 2 1 ∷ Committed 1 0 ∷ [];
      records = record { actor = 1; number = 0; writes = false; calls = 1 }
          ∷ record { actor = 2; number = 1; writes = true; calls = 1 } ∷ [];
      aborted = [];
      half = [];
      words = 0 ∷ [];
    }
unfolding lookup put with_entry locations comes_before insert insert_commit
reader_first = refl

-- an allocation fails between the locks and the first value store: the number is lost, and what was held is put back
starved :
    leaves (begins 1 ∷ begins 3 ∷ calls 1 0 (Put 5 1) ∷ begins 2 ∷ calls 2 0 (Write 1) ∷ commits 2 ∷ asks_commit 1 ∷ Steps 1 5 ∷ Starves 1
    ∷ goes_on 1 ∷ begins 2 ∷ calls 2 0 (Write 2) ∷ commits 2 ∷ calls 3 0 (Get 5) ∷ commits 3 ∷ []) word_and_map
    ≡ record {
      told = Begun 1 0 ∷ Begun 3 0 ∷ Replied 1 ∷ Begun 2 0 ∷ Replied 2 ∷ Committed 2 1 ∷ IsRefused 1 OutOfMemory
          ∷ Begun 2 2 ∷ Replied 2 ∷ Committed 2 3 ∷ Replied 3 ∷ Committed 3 0 ∷ [];
      records = record { actor = 3; number = 0; writes = false; calls = 1 } ∷ record { actor = 2; number = 1; writes = true; calls = 1 }
          ∷ record { actor = 2; number = 3; writes = true; calls = 1 } ∷ [];
      aborted = record { actor = 1; rv = 0; calls = 1; cause = Some OutOfMemory } ∷ [];
      half = [];
      words = 2 ∷ [];
    }
unfolding lookup put with_entry locations comes_before insert insert_commit
starved = refl

-- a call is five steps: the gate, the copy, three loads; the commit of a word and a location that has nothing to check is eleven
eleven_steps :
    told (begins 1 ∷ asks_call 1 0 (Put 5 1) ∷ Steps 1 4 ∷ Asks 1 request.Abort ∷ Steps 1 1 ∷ calls 1 0 (Write 7)
    ∷ asks_commit 1 ∷ Steps 1 10 ∷ Asks 1 request.Abort ∷ Steps 1 1 ∷ []) word_and_map
    ≡ Begun 1 0 ∷ IsRefused 1 NotIdle ∷ Replied 1 ∷ Replied 1 ∷ IsRefused 1 NotIdle ∷ Committed 1 1 ∷ []
unfolding lookup put with_entry locations comes_before insert insert_commit
eleven_steps = refl

-- so is that of two locations of one map, whose gate is taken once
one_gate :
    told (begins 1 ∷ calls 1 0 (Put 1 10) ∷ calls 1 0 (Put 2 20) ∷ asks_commit 1 ∷ Steps 1 10 ∷ Asks 1 request.Abort ∷ Steps 1 1
    ∷ []) two_stripes
    ≡ Begun 1 0 ∷ Replied 1 ∷ Replied 1 ∷ IsRefused 1 NotIdle ∷ Committed 1 1 ∷ []
unfolding lookup put with_entry locations comes_before insert insert_commit
one_gate = refl

-- a second gate that remains busy for 64 tries: after four steps for the locks, the number, the first gate and the tries it takes four
-- more, which give the gate and both locks back and load the clock. So others find the gate and the locks free.
busy_second_gate :
    leaves (begins 1 ∷ calls 1 0 (Put 1 10) ∷ calls 1 1 (Put 1 10) ∷ begins 2 ∷ asks_call 2 1 (Get 5) ∷ Steps 2 1 ∷ asks_commit 1
    ∷ Steps 1 73 ∷ Asks 1 request.Abort ∷ Steps 1 1 ∷ begins 3 ∷ calls 3 0 (Put 1 30) ∷ commits 3 ∷ goes_on 2 ∷ []) two_maps
    ≡ record {
      told = Begun 1 0 ∷ Replied 1 ∷ Replied 1 ∷ Begun 2 0 ∷ IsRefused 1 NotIdle ∷ IsRefused 1 (GateBusy 1)
          ∷ Begun 3 1 ∷ Replied 3 ∷ Committed 3 2 ∷ Replied 2 ∷ [];
      records = record { actor = 3; number = 2; writes = true; calls = 1 } ∷ [];
      aborted = record { actor = 1; rv = 0; calls = 2; cause = Some (GateBusy 1) } ∷ [];
      half = [];
      words = [];
    }
unfolding lookup put with_entry locations comes_before insert insert_commit
busy_second_gate = refl

-- a commit between whose begin and whose number no other one took a number checks nothing: the lock, its load, the number, and the store
-- that commits
quick_check :
    leaves (begins 1 ∷ calls 1 0 Read ∷ calls 1 1 (Write 5) ∷ asks_commit 1 ∷ Steps 1 4 ∷ []) two_words
    ≡ record {
      told = Begun 1 0 ∷ Replied 1 ∷ Replied 1 ∷ [];
      records = record { actor = 1; number = 1; writes = true; calls = 2 } ∷ [];
      aborted = [];
      half = 1 ∷ [];
      words = 1 ∷ 5 ∷ [];
    }
unfolding lookup put with_entry locations comes_before insert insert_commit
quick_check = refl

-- ---- a commit of a word and a location of a map that stops after so many steps, and another that then gets the key
abbrev stopped : ℕ → Left
stopped k =
    leaves (begins 1 ∷ calls 1 0 (Put 5 1) ∷ calls 1 0 (Write 7) ∷ asks_commit 1 ∷ Steps 1 k ∷ begins 2 ∷ calls 2 0 (Get 5) ∷ [])
    word_and_map

-- before its first value store: what the other is answered, and how that ends
abbrev not_committed : List Told → List Lost → Left
not_committed ts es = record { told = Begun 1 0 ∷ Replied 1 ∷ Replied 1 ∷ ts; records = []; aborted = es; half = []; words = 0 ∷ [] }

-- and from it on
abbrev committed : List Told → List Lost → List ℕ → Left
committed ts es half =
    record {
      told = Begun 1 0 ∷ Replied 1 ∷ Replied 1 ∷ ts;
      records = record { actor = 1; number = 1; writes = true; calls = 2 } ∷ [];
      aborted = es;
      half = half;
      words = 7 ∷ [];
    }

abbrev moved : ℕ → List Lost
moved rv = record { actor = 2; rv = rv; calls = 0; cause = Some (Moved 1 1) } ∷ []

abbrev busy : List Lost
busy = record { actor = 2; rv = 1; calls = 0; cause = Some (GateBusy 0) } ∷ []

-- the location is not locked yet
stopped_unlocked :
    (stopped 0 ≡ not_committed (Begun 2 0 ∷ Replied 2 ∷ []) [])
    × (stopped 1 ≡ not_committed (Begun 2 0 ∷ Replied 2 ∷ []) [])
    × (stopped 2 ≡ not_committed (Begun 2 0 ∷ Replied 2 ∷ []) [])
    × (stopped 3 ≡ not_committed (Begun 2 0 ∷ Replied 2 ∷ []) [])
unfolding lookup put with_entry locations comes_before insert insert_commit
stopped_unlocked = (refl, refl, refl, refl)

-- it is locked, and has no number
stopped_locked :
    stopped 4 ≡ not_committed (Begun 2 0 ∷ IsRefused 2 (Moved 1 1) ∷ []) (moved 0)
unfolding lookup put with_entry locations comes_before insert insert_commit
stopped_locked = refl

-- it has a number
stopped_numbered :
    stopped 5 ≡ not_committed (Begun 2 1 ∷ IsRefused 2 (Moved 1 1) ∷ []) (moved 1)
unfolding lookup put with_entry locations comes_before insert insert_commit
stopped_numbered = refl

-- it holds the gate
stopped_with_gate :
    stopped 6 ≡ not_committed (Begun 2 1 ∷ IsRefused 2 (GateBusy 0) ∷ []) busy
unfolding lookup put with_entry locations comes_before insert insert_commit
stopped_with_gate = refl

-- values are stored, and the base is out
stopped_storing :
    (stopped 7 ≡ committed (Begun 2 1 ∷ IsRefused 2 (GateBusy 0) ∷ []) busy (1 ∷ []))
    × (stopped 8 ≡ committed (Begun 2 1 ∷ IsRefused 2 (GateBusy 0) ∷ []) busy (1 ∷ []))
unfolding lookup put with_entry locations comes_before insert insert_commit
stopped_storing = (refl, refl)

-- the base is home, and the location still locked
stopped_home :
    (stopped 9 ≡ committed (Begun 2 1 ∷ IsRefused 2 (Moved 1 1) ∷ []) (moved 1) (1 ∷ []))
    × (stopped 10 ≡ committed (Begun 2 1 ∷ IsRefused 2 (Moved 1 1) ∷ []) (moved 1) (1 ∷ []))
unfolding lookup put with_entry locations comes_before insert insert_commit
stopped_home = (refl, refl)

-- all is done
stopped_never :
    stopped 11 ≡ committed (Committed 1 1 ∷ Begun 2 1 ∷ Replied 2 ∷ []) [] []
unfolding lookup put with_entry locations comes_before insert insert_commit
stopped_never = refl

-- ---- a failed allocation after so many steps of a request; then another gets the key, so nothing is held
abbrev starved_call : ℕ → List Told
starved_call k =
    told (begins 1 ∷ asks_call 1 0 (Put 5 1) ∷ Steps 1 k ∷ Starves 1 ∷ goes_on 1 ∷ begins 2 ∷ calls 2 0 (Get 5) ∷ []) word_and_map

abbrev starved_commit : ℕ → List Told
starved_commit k =
    told (begins 1 ∷ calls 1 0 (Put 5 1) ∷ calls 1 0 (Write 7) ∷ asks_commit 1 ∷ Steps 1 k ∷ Starves 1 ∷ goes_on 1 ∷ begins 2
    ∷ calls 2 0 (Get 5) ∷ []) word_and_map

-- a call, at its gate, with it, and at each load
calls_starved :
    (starved_call 0 ≡ Begun 1 0 ∷ IsRefused 1 OutOfMemory ∷ Begun 2 0 ∷ Replied 2 ∷ [])
    × (starved_call 1 ≡ Begun 1 0 ∷ IsRefused 1 OutOfMemory ∷ Begun 2 0 ∷ Replied 2 ∷ [])
    × (starved_call 2 ≡ Begun 1 0 ∷ IsRefused 1 OutOfMemory ∷ Begun 2 0 ∷ Replied 2 ∷ [])
    × (starved_call 3 ≡ Begun 1 0 ∷ IsRefused 1 OutOfMemory ∷ Begun 2 0 ∷ Replied 2 ∷ [])
    × (starved_call 4 ≡ Begun 1 0 ∷ IsRefused 1 OutOfMemory ∷ Begun 2 0 ∷ Replied 2 ∷ [])
unfolding lookup put with_entry locations comes_before insert insert_commit
calls_starved = (refl, refl, refl, refl, refl)

-- a commit before it has a number
commits_starved :
    (starved_commit 0 ≡ Begun 1 0 ∷ Replied 1 ∷ Replied 1 ∷ IsRefused 1 OutOfMemory ∷ Begun 2 0 ∷ Replied 2 ∷ [])
    × (starved_commit 1 ≡ Begun 1 0 ∷ Replied 1 ∷ Replied 1 ∷ IsRefused 1 OutOfMemory ∷ Begun 2 0 ∷ Replied 2 ∷ [])
    × (starved_commit 2 ≡ Begun 1 0 ∷ Replied 1 ∷ Replied 1 ∷ IsRefused 1 OutOfMemory ∷ Begun 2 0 ∷ Replied 2 ∷ [])
    × (starved_commit 3 ≡ Begun 1 0 ∷ Replied 1 ∷ Replied 1 ∷ IsRefused 1 OutOfMemory ∷ Begun 2 0 ∷ Replied 2 ∷ [])
    × (starved_commit 4 ≡ Begun 1 0 ∷ Replied 1 ∷ Replied 1 ∷ IsRefused 1 OutOfMemory ∷ Begun 2 0 ∷ Replied 2 ∷ [])
unfolding lookup put with_entry locations comes_before insert insert_commit
commits_starved = (refl, refl, refl, refl, refl)

-- one that has a number, which is lost
numbers_starved :
    (starved_commit 5 ≡ Begun 1 0 ∷ Replied 1 ∷ Replied 1 ∷ IsRefused 1 OutOfMemory ∷ Begun 2 1 ∷ Replied 2 ∷ [])
    × (starved_commit 6 ≡ Begun 1 0 ∷ Replied 1 ∷ Replied 1 ∷ IsRefused 1 OutOfMemory ∷ Begun 2 1 ∷ Replied 2 ∷ [])
unfolding lookup put with_entry locations comes_before insert insert_commit
numbers_starved = (refl, refl)

-- from the first value store on it has no effect
never_starved :
    (starved_commit 7 ≡ Begun 1 0 ∷ Replied 1 ∷ Replied 1 ∷ Committed 1 1 ∷ Begun 2 1 ∷ Replied 2 ∷ [])
    × (starved_commit 8 ≡ Begun 1 0 ∷ Replied 1 ∷ Replied 1 ∷ Committed 1 1 ∷ Begun 2 1 ∷ Replied 2 ∷ [])
    × (starved_commit 9 ≡ Begun 1 0 ∷ Replied 1 ∷ Replied 1 ∷ Committed 1 1 ∷ Begun 2 1 ∷ Replied 2 ∷ [])
    × (starved_commit 10 ≡ Begun 1 0 ∷ Replied 1 ∷ Replied 1 ∷ Committed 1 1 ∷ Begun 2 1 ∷ Replied 2 ∷ [])
unfolding lookup put with_entry locations comes_before insert insert_commit
never_starved = (refl, refl, refl, refl)

-- an unanswered begin is refused at once, a pending commit without writes by its load of the clock; an abort has no effect of it
ends_starved :
    told (Asks 1 request.Begin ∷ Starves 1 ∷ begins 1 ∷ calls 1 0 (Get 5) ∷ asks_commit 1 ∷ Starves 1 ∷ Steps 1 1
    ∷ begins 1 ∷ Asks 1 request.Abort ∷ Starves 1 ∷ Steps 1 1 ∷ Starves 1 ∷ []) a_map
    ≡ IsRefused 1 OutOfMemory ∷ Begun 1 0 ∷ Replied 1 ∷ IsRefused 1 OutOfMemory ∷ Begun 1 0 ∷ Aborted 1 ∷ IsRefused 1 NoTransaction ∷ []
unfolding lookup put with_entry locations comes_before insert insert_commit
ends_starved = refl
