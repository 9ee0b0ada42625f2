-- A table's addresses, and an actor's lone world turn by turn, computed by the definitions.
use Rattle.std.specs.Prelude.{◌≡◌, ℕ, true, List, [], ◌∷◌, None, refl}
use Rattle.tx_sets.specs.Entries.{lookup, with_entry, locations}
use Rattle.vlock_word.specs.LockWord.{unbits}
use Rattle.tx_machine.specs.World.{put, comes_before, insert}
use Rattle.tx_machine.specs.Cells.{ClockCell, LockCell, ValueCell}
use Rattle.seq_model.specs.declared.call.Op.TheVariants.{Read, Write}
use Rattle.seq_model.specs.declared.call.Reply.TheVariants.{Done, Number}
use Rattle.seq_model.specs.declared.event.Event.{Event}
use Rattle.seq_model.specs.declared.event.Event.TheVariants.{Ask}
use Rattle.seq_model.specs.declared.event.Request.{Request}
use Rattle.seq_model.specs.declared.event.Request.TheVariants as request
use Rattle.tx_machine.specs.Boosted.{insert_commit}
use Rattle.replay_log.specs.Seats.{World}
use Rattle.replay_log.specs.Worlds.{opened}
use Rattle.shared_table.specs.Layout.{address, gate_address, stride, values_in, width}
use Rattle.shared_table.specs.Turns.{Turn, ends, lone}

-- three locations are eight words apart, each value beside its lock word, and two gates eight words apart
three_locations :
    (address 3 ClockCell ≡ 0) × (address 3 (LockCell 0) ≡ 8) × (address 3 (ValueCell 0) ≡ 9) × (address 3 (LockCell 2) ≡ 24)
    × (address 3 (ValueCell 2) ≡ 25)
    × (gate_address 3 0 ≡ 40) × (gate_address 3 1 ≡ 48) × (width 3 2 ≡ 56)
three_locations = (refl, refl, refl, refl, refl, refl, refl, refl)

-- of more than 4,096 locations four share a line of the cache
many_locations :
    (stride 4096 ≡ 8) × (stride 4097 ≡ 2) × (address 4097 (LockCell 3) ≡ 14) × (address 4097 (ValueCell 3) ≡ 15)
    × (gate_address 4097 0 ≡ 8210) × (values_in 1 1 (0 ∷ 0 ∷ 0 ∷ 0 ∷ 0 ∷ 0 ∷ 0 ∷ 0 ∷ 0 ∷ 7 ∷ []) ≡ 7 ∷ [])
many_locations = (refl, refl, refl, refl, refl, refl)

turn : List (Event ℕ) → ℕ → Turn ℕ
turn asks found = record { asks = asks; found = found; base = None }

asks : Request ℕ → Event ℕ
asks q = Ask 0 q

one_word : World ℕ
one_word = opened [] 0 (5 ∷ []) []

-- Actor 0 finds the clock at 7, reads 9 at version 3 where the opening has 5 at version 0, writes 8 there, and finds the clock at 7
-- again, so it commits as 8.
commit_by_what_was_found :
    ends 0 (lone 0 one_word
    (turn (asks request.Begin ∷ []) 7 ∷ turn (asks (request.Call (record { target = 0; op = Read })) ∷ []) 6 ∷ turn [] 9 ∷ turn [] 6
    ∷ turn (asks (request.Call (record { target = 0; op = Write 8 })) ∷ asks request.Commit ∷ []) 6 ∷ turn [] 6 ∷ turn [] 7 ∷ []))
    ≡ (
      0,
      record {
        number = 8;
        writes = true;
        calls = (record { target = 0; op = Read }, Number 9) ∷ (record { target = 0; op = Write 8 }, Done) ∷ [];
      },
    ) ∷ []
unfolding turn asks one_word unbits lookup put with_entry locations comes_before insert insert_commit
commit_by_what_was_found = refl
