-- Schedules of calls, computed by the definitions: gates and their tries, keys that were copied, editions that differ, declared readers.
use Rattle.std.specs.Prelude.{◌≡◌, ℕ, zero, suc, ◌+◌, [], ◌∷◌, refl}
use Rattle.tx_sets.specs.Entries.{Entries, lookup, with_entry, locations}
use Rattle.tx_sets.specs.declared.access_set.TheConstants.{LOCATION_LIMIT}
use Rattle.tx_machine.specs.World.{put, comes_before, insert}
use Rattle.seq_model.specs.declared.call.Op.TheVariants.{Read, Write, Get, Put, Least, Len, Peek, Enqueue}
use Rattle.seq_model.specs.declared.refusal.Refusal.TheVariants.{Moved, Stale, GateBusy, Invalid, NoSuch, NotIdle, TooLong}
use Rattle.seq_model.specs.declared.event.Request.TheVariants as request
use Rattle.tx_machine.specs.Boosted.{insert_commit}
use Rattle.replay_log.specs.Seats.{World, actor_of}
use Rattle.replay_log.specs.WorldScripts.{Begun, Committed, Replied, Aborted, IsRefused, Asks, Does, Steps, told, world_after}
use Rattle.replay_log.specs.WorldScripts.{begins, begins_read, calls, asks_call, commits, asks_commit, goes_on}
use Rattle.replay_log.specs.WorldScripts.{a_map, two_stripes, two_words, word_and_queue}

-- a copy from before a commit, and a load from after it
stale_copy :
    told (begins 1 ∷ calls 1 0 (Put 5 2) ∷ asks_commit 1 ∷ Steps 1 3 ∷ begins 2 ∷ asks_call 2 0 (Get 5) ∷ Steps 2 2 ∷ goes_on 1
    ∷ goes_on 2 ∷ []) a_map
    ≡ Begun 1 0 ∷ Replied 1 ∷ Begun 2 1 ∷ Committed 1 1 ∷ IsRefused 2 (Stale 0 0 1) ∷ []
unfolding lookup put with_entry locations comes_before insert insert_commit
stale_copy = refl

-- a second key of a location that was read, copied after another's commit: its edition is not the one that was read
second_key :
    told (begins 1 ∷ calls 1 0 (Get 1) ∷ begins 2 ∷ calls 2 0 (Put 2 21) ∷ commits 2 ∷ calls 1 0 (Get 2) ∷ []) a_map
    ≡ Begun 1 0 ∷ Replied 1 ∷ Begun 2 0 ∷ Replied 2 ∷ Committed 2 1 ∷ IsRefused 1 (Stale 0 1 0) ∷ []
unfolding lookup put with_entry locations comes_before insert insert_commit
second_key = refl

-- the number of keys, after the key of one of two stripes was read: that stripe without a step, the other by three loads
number_after_key :
    told (begins 1 ∷ calls 1 0 (Get 2) ∷ asks_call 1 0 Len ∷ Steps 1 4 ∷ Asks 1 request.Abort ∷ Steps 1 1 ∷ []) two_stripes
    ≡ Begun 1 0 ∷ Replied 1 ∷ IsRefused 1 NotIdle ∷ Replied 1 ∷ []
unfolding lookup put with_entry locations comes_before insert insert_commit
number_after_key = refl

-- a key that was copied takes no gate, another one of the same location does; the number of keys is touched by itself
held_key :
    told (begins 1 ∷ calls 1 0 (Get 5) ∷ begins 2 ∷ asks_call 2 0 (Get 7) ∷ Steps 2 1 ∷ calls 1 0 (Get 5) ∷ calls 1 0 (Put 5 2)
    ∷ asks_call 1 0 Len ∷ Steps 1 1 ∷ goes_on 2 ∷ goes_on 1 ∷ calls 1 0 Len ∷ []) a_map
    ≡ Begun 1 0 ∷ Replied 1 ∷ Begun 2 0 ∷ Replied 1 ∷ Replied 1 ∷ Replied 2 ∷ Replied 1 ∷ Replied 1 ∷ []
unfolding lookup put with_entry locations comes_before insert insert_commit
held_key = refl

-- the number of keys says nothing of a key: that is copied anew
key_after_number :
    told (begins 1 ∷ calls 1 0 Len ∷ asks_call 1 0 (Get 5) ∷ Asks 1 request.Abort ∷ goes_on 1 ∷ []) a_map
    ≡ Begun 1 0 ∷ Replied 1 ∷ IsRefused 1 NotIdle ∷ Replied 1 ∷ []
unfolding lookup put with_entry locations comes_before insert insert_commit
key_after_number = refl

-- the number of keys is copied of all stripes, each with its edition: it is answered again also where both had been written before
number_again :
    told (begins 2 ∷ calls 2 0 (Put 1 10) ∷ calls 2 0 (Put 2 20) ∷ commits 2 ∷ begins 1 ∷ calls 1 0 Len ∷ calls 1 0 Len ∷ []) two_stripes
    ≡ Begun 2 0 ∷ Replied 2 ∷ Replied 2 ∷ Committed 2 1 ∷ Begun 1 1 ∷ Replied 1 ∷ Replied 1 ∷ []
unfolding lookup put with_entry locations comes_before insert insert_commit
number_again = refl

-- beside one that holds the gate, a key that was copied is answered, and another one is not
key_beside_a_gate :
    told (begins 1 ∷ calls 1 0 (Get 5) ∷ begins 2 ∷ asks_call 2 0 (Get 7) ∷ Steps 2 1 ∷ calls 1 0 (Get 5) ∷ calls 1 0 (Get 8)
    ∷ goes_on 2 ∷ []) a_map
    ≡ Begun 1 0 ∷ Replied 1 ∷ Begun 2 0 ∷ Replied 1 ∷ IsRefused 1 (GateBusy 0) ∷ Replied 2 ∷ []
unfolding lookup put with_entry locations comes_before insert insert_commit
key_beside_a_gate = refl

-- a gate that is free again after 63 tries is taken by the last one
last_try :
    told (begins 1 ∷ asks_call 1 0 (Get 5) ∷ Steps 1 1 ∷ begins 2 ∷ asks_call 2 0 (Get 5) ∷ Steps 2 63 ∷ goes_on 1 ∷ goes_on 2 ∷ []) a_map
    ≡ Begun 1 0 ∷ Begun 2 0 ∷ Replied 1 ∷ Replied 2 ∷ []
unfolding lookup put with_entry locations comes_before insert insert_commit
last_try = refl

-- after 64 tries there is none, though the gate is free by then
no_more_tries :
    told (begins 1 ∷ asks_call 1 0 (Get 5) ∷ Steps 1 1 ∷ begins 2 ∷ asks_call 2 0 (Get 5) ∷ Steps 2 64 ∷ goes_on 1 ∷ Steps 2 1 ∷ []) a_map
    ≡ Begun 1 0 ∷ Begun 2 0 ∷ Replied 1 ∷ IsRefused 2 (GateBusy 0) ∷ []
unfolding lookup put with_entry locations comes_before insert insert_commit
no_more_tries = refl

-- a call of another kind, and one on a collection that isn't there
no_such :
    told (begins 1 ∷ calls 1 0 Least ∷ calls 1 9 Len ∷ Does 1 request.Abort ∷ []) a_map
    ≡ Begun 1 0 ∷ IsRefused 1 NoSuch ∷ IsRefused 1 NoSuch ∷ Aborted 1 ∷ []
unfolding lookup put with_entry locations comes_before insert insert_commit
no_such = refl

-- a read set of so many locations, none of them a collection's
abbrev many : ℕ → Entries
many zero = []
many (suc n) = (n + 7, 0) ∷ many n

-- actor 1 has begun, and has read so many locations
abbrev crowded : ℕ → World ℕ
crowded n =
    let w = world_after (begins 1 ∷ []) a_map in
    let actors = put w.boosted.words.actors 1 (record (actor_of w 1) { reads = many n }) in
    record w { boosted = record w.boosted { words = record w.boosted.words { actors = actors } } }

-- a call that finds no room for its location is TooLong by the store of its gate, and keeps nothing of what it copied
no_room :
    told (asks_call 1 0 (Get 5) ∷ Steps 1 1 ∷ Steps 1 1 ∷ asks_call 1 0 (Get 5) ∷ Steps 1 2 ∷ []) (crowded LOCATION_LIMIT)
    ≡ IsRefused 1 TooLong ∷ IsRefused 1 TooLong ∷ []
unfolding lookup put with_entry locations comes_before insert insert_commit
no_room = refl

-- one location fewer, and it is answered
last_room :
    told (asks_call 1 0 (Get 5) ∷ Steps 1 4 ∷ Steps 1 1 ∷ []) (crowded 4095) ≡ Replied 1 ∷ []
unfolding lookup put with_entry locations comes_before insert insert_commit
last_room = refl

-- a declared reader writes nothing, and loads a word that it has read anew
declared_word :
    told (begins_read 1 ∷ calls 1 0 Read ∷ calls 1 0 (Write 5) ∷ begins 2 ∷ calls 2 0 (Write 9) ∷ commits 2 ∷ calls 1 0 Read ∷ []) two_words
    ≡ Begun 1 0 ∷ Replied 1 ∷ IsRefused 1 NoSuch ∷ Begun 2 0 ∷ Replied 2 ∷ Committed 2 1 ∷ IsRefused 1 (Moved 0 2) ∷ []
unfolding lookup put with_entry locations comes_before insert insert_commit
declared_word = refl

-- so it does with the locations of a collection, of which it copies each key once: no gate is taken for a key that it has
declared_key :
    told (begins_read 1 ∷ calls 1 0 (Get 5) ∷ calls 1 0 (Put 5 1) ∷ asks_call 1 0 (Get 5) ∷ Steps 1 2 ∷ Steps 1 1
    ∷ begins 2 ∷ calls 2 0 (Put 5 2) ∷ commits 2 ∷ calls 1 0 (Get 5) ∷ []) a_map
    ≡ Begun 1 0 ∷ Replied 1 ∷ IsRefused 1 NoSuch ∷ Replied 1 ∷ Begun 2 0 ∷ Replied 2 ∷ Committed 2 1 ∷ IsRefused 1 (Moved 0 2) ∷ []
unfolding lookup put with_entry locations comes_before insert insert_commit
declared_key = refl

-- and it compares: its copy is from before a commit, and its load from after it
declared_copy :
    told (begins 1 ∷ calls 1 0 (Put 5 2) ∷ asks_commit 1 ∷ Steps 1 3 ∷ begins_read 2 ∷ asks_call 2 0 (Get 5) ∷ Steps 2 2 ∷ goes_on 1
    ∷ goes_on 2 ∷ []) a_map
    ≡ Begun 1 0 ∷ Replied 1 ∷ Begun 2 1 ∷ Committed 1 1 ∷ IsRefused 2 (Stale 0 0 1) ∷ []
unfolding lookup put with_entry locations comes_before insert insert_commit
declared_copy = refl

-- the item at the head and an item that is enqueued, in different cells
other_cell :
    told (begins 1 ∷ begins 2 ∷ calls 1 0 (Enqueue 9) ∷ calls 2 0 Peek ∷ calls 2 0 (Write 1)
    ∷ commits 1 ∷ commits 2 ∷ []) (word_and_queue 2 (8 ∷ []))
    ≡ Begun 1 0 ∷ Begun 2 0 ∷ Replied 1 ∷ Replied 2 ∷ Replied 2 ∷ Committed 1 1 ∷ Committed 2 2 ∷ []
unfolding lookup put with_entry locations comes_before insert insert_commit
other_cell = refl

-- and in the same one
same_cell :
    told (begins 1 ∷ begins 2 ∷ calls 1 0 (Enqueue 9) ∷ calls 2 0 Peek ∷ calls 2 0 (Write 1)
    ∷ commits 1 ∷ commits 2 ∷ []) (word_and_queue 1 (8 ∷ []))
    ≡ Begun 1 0 ∷ Begun 2 0 ∷ Replied 1 ∷ Replied 2 ∷ Replied 2 ∷ Committed 1 1 ∷ IsRefused 2 (Invalid 3 2) ∷ []
unfolding lookup put with_entry locations comes_before insert insert_commit
same_cell = refl
