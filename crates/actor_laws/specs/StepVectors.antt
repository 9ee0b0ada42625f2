-- Schedules computed by the definitions: the word or gate of each step, what it answers by the number found, what a lone world keeps, what
-- a log gets.
use Rattle.std.specs.Prelude.{◌≡◌, ℕ, zero, suc, false, List, [], ◌∷◌, ◌++◌, Some, None, refl}
use Rattle.std.specs.FinMap.{empty}
use Rattle.tx_sets.specs.Entries.{lookup, with_entry, locations}
use Rattle.vlock_word.specs.LockWord.{unbits}
use Rattle.tx_machine.specs.Actor.{Actor, Lock, Look, opened as begun}
use Rattle.tx_machine.specs.World.{put, comes_before, insert}
use Rattle.tx_machine.specs.Cells.{ClockCell, LockCell, ValueCell}
use Rattle.tx_machine.specs.Notices.{LockedAt, Moved, Quiet}
use Rattle.seq_model.specs.declared.call.Op.{Op}
use Rattle.seq_model.specs.declared.call.Op.TheVariants.{Get, Put}
use Rattle.seq_model.specs.declared.held.Held.TheVariants.{Map}
use Rattle.seq_model.specs.declared.event.Event.TheVariants.{Ask, Step}
use Rattle.seq_model.specs.declared.event.Request.{Request}
use Rattle.seq_model.specs.declared.event.Request.TheVariants as request
use Rattle.tx_machine.specs.Boosted.{insert_commit}
use Rattle.conflict.specs.declared.change.Change.TheVariants as change
use Rattle.replay_log.specs.Parts.{MapKind}
use Rattle.replay_log.specs.Contents.{CallWithOutcome, Block}
use Rattle.replay_log.specs.Seats.{World}
use Rattle.replay_log.specs.Worlds.{happens, opened}
use Rattle.actor_laws.specs.StepTargets.{Spot, Nowhere, Word, Gate, spot_at, found_gate}
use Rattle.actor_laws.specs.StepAnswers.{tells}
use Rattle.actor_laws.specs.Bases.{log_changes, log_locations}

-- the words and gates of a's steps until it is idle, of so many at most
abbrev onward : Spot → World ℕ → World ℕ × List Spot → World ℕ × List Spot
onward Nowhere w rest = (w, [])
onward spot w rest = (rest.0, spot ∷ rest.1)

abbrev walk : (a n : ℕ) → World ℕ → World ℕ × List Spot
walk a zero w = (w, [])
walk a (suc n) w = onward (spot_at a w (w.seats a).stage) w (walk a n (happens w (Step a)).0)

-- each request in turn, with its steps
abbrev plays : (a : ℕ) → List (Request ℕ) → World ℕ → World ℕ × List Spot
plays a [] w = (w, [])
plays a (q ∷ qs) w =
    let done = walk a 20 (happens w (Ask a q)).0 in
    let rest = plays a qs done.0 in (rest.0, done.1 ++ rest.1)

abbrev spots : (a : ℕ) → List (Request ℕ) → World ℕ → List Spot
spots a qs w = (plays a qs w).1

abbrev call_on : ℕ → Op ℕ → Request ℕ
call_on k op = request.Call (record { target = k; op = op })

abbrev call : Op ℕ → Request ℕ
call op = call_on 0 op

abbrev a_map : World ℕ
a_map = opened (record { kind = MapKind; stripes = 1 } ∷ []) 0 [] (Map empty ∷ [])

-- A writer: the clock; the gate twice and the edition's word three times, to copy and judge it; its lock, the clock, the gate, the first
-- value store, the base, the release. No other commit took a number since it began, so it checks nothing.
writer_spots :
    spots 1 (request.Begin ∷ call (Put 5 2) ∷ request.Commit ∷ []) a_map
    ≡ Word ClockCell ∷ Gate 0 ∷ Gate 0 ∷ Word (LockCell 0) ∷ Word (ValueCell 0) ∷ Word (LockCell 0) ∷ Word (LockCell 0) ∷ Word
    (LockCell 0) ∷ Word ClockCell
    ∷ Gate 0 ∷ Word (ValueCell 0) ∷ Gate 0 ∷ Word (LockCell 0) ∷ []
unfolding lookup put with_entry locations comes_before insert insert_commit
writer_spots = refl

-- A declared reader: a second call on the key that it holds takes no gate, and reads the location anew; it commits by one load of the
-- clock.
declared_reader_spots :
    spots 1 (request.BeginRead ∷ call (Get 5) ∷ call (Get 5) ∷ request.Commit ∷ []) a_map
    ≡ Word ClockCell ∷ Gate 0 ∷ Gate 0 ∷ Word (LockCell 0) ∷ Word (ValueCell 0) ∷ Word (LockCell 0) ∷ Word (LockCell 0) ∷ Word (ValueCell 0)
    ∷ Word (LockCell 0) ∷ Word ClockCell ∷ []
unfolding lookup put with_entry locations
declared_reader_spots = refl

-- An abort after a copy: the clock once more, and no gate.
abort_spots : spots 1 (request.Begin ∷ call (Get 5) ∷ request.Abort ∷ []) a_map
    ≡ Word ClockCell ∷ Gate 0 ∷ Gate 0 ∷ Word (LockCell 0) ∷ Word (ValueCell 0) ∷ Word (LockCell 0) ∷ Word ClockCell ∷ []
unfolding lookup put with_entry locations
abort_spots = refl

-- a transaction that began at 3 and has read location 0
reader : Actor
reader = record (begun false 3) { reads = (0, 9) ∷ [] }

-- A read is moved by a word that is locked, or free at a newer version, and continues at version 3. A commit that finds the clock at 3
-- checks nothing, and is locked at once; one that finds 4 has its reads to check.
tells_by_number :
    (tells reader (Look 0) 7 ≡ Moved 0 7) × (tells reader (Look 0) 8 ≡ Moved 0 8) × (tells reader (Look 0) 6 ≡ Quiet)
    × (tells reader (Lock []) 3 ≡ LockedAt 4) × (tells reader (Lock []) 4 ≡ Quiet)
unfolding reader locations unbits
tells_by_number = (refl, refl, refl, refl, refl)

-- of a gate it is seen whether it is free; one's own remains one's own
gates_found : (found_gate 1 0 None ≡ None) × (found_gate 1 1 None ≡ Some 2) × (found_gate 1 0 (Some 3) ≡ None)
    × (found_gate 1 1 (Some 1) ≡ Some 1)
gates_found = (refl, refl, refl, refl)

-- The log of a transaction on a collection has its changes there alone, in order, with their locations: key 5 is on location 1 of two, key
-- 6 on 0.
two_stripes : Block
two_stripes = record { kind = MapKind; stripes = 2 }

two_maps : World ℕ
two_maps = opened (two_stripes ∷ two_stripes ∷ []) 0 [] (Map empty ∷ Map empty ∷ [])

outcomes : List (CallWithOutcome ℕ)
outcomes = ((plays 1 (request.Begin ∷ call (Put 5 2) ∷ call_on 1 (Put 7 1) ∷ call (Get 5) ∷ call
    (Put 6 3) ∷ []) two_maps).0.boosted.shadows 1).outcomes

log_of_one_collection : (log_changes 0 two_stripes outcomes ≡ change.Put 5 2 ∷ change.Put 6 3 ∷ [])
    × (log_locations 0 two_stripes outcomes ≡ 1 ∷ 0 ∷ [])
unfolding two_stripes two_maps outcomes lookup put with_entry locations
log_of_one_collection = (refl, refl)
