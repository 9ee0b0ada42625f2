use Rattle.std.proofs.Common.{refl, arith, sym, ◌+◌, subst}
use Rattle.shared_table.specs.Seated.{view, locations_in, opening_of}
use Rattle.tx_turns.specs.declared.due.NextStep.{NextStep}
use Rattle.tx_turns.specs.NextStep.{IsWithin}
use Rattle.tx_turns.specs.Touches.{Awaits, IsInWord, Touches}
use Rattle.tx_turns.proofs.touching.touch.Goals as goal

pub unreachable-requires : goal.unreachable-requires
unreachable-requires g c = c.requires.some c.in-Nothing.is

pub load_clock-requires-clause-due : goal.load_clock-requires-clause-due
load_clock-requires-clause-due g c =
    let h = subst (λ (d : NextStep). Awaits (opening_of c.args.table.now) c.args.seat.now d) c.in-LoadClock.is c.requires.due in
    (h.spot, h.becomes)

pub returns-in-LoadClock : goal.returns-in-LoadClock
returns-in-LoadClock g c = subst
    (λ (d : NextStep). Touches (opening_of c.args.table.now) c.args.seat.now d c.load_clock.result c.load_clock.new.seat)
    (sym c.in-LoadClock.is)
    (record {
      clock = c.load_clock.result;
      found = c.load_clock.result;
      takes = c.load_clock.ensures.step;
      finds = refl;
      rises = c.load_clock.ensures.room.0;
      clocks = refl;
    })

pub stamp-requires-clause-due : goal.stamp-requires-clause-due
stamp-requires-clause-due g c =
    let h = subst (λ (d : NextStep). Awaits (opening_of c.args.table.now) c.args.seat.now d) c.in-AddToClock.is c.requires.due in
    (h.spot, h.becomes)

pub returns-in-AddToClock : goal.returns-in-AddToClock
returns-in-AddToClock g c =
    subst (λ (d : NextStep). Touches (opening_of c.args.table.now) c.args.seat.now d c.stamp.result c.stamp.new.seat)
    (sym c.in-AddToClock.is) (record {
      clock = c.stamp.result + 1;
      found = c.stamp.result;
      takes = c.stamp.ensures.step;
      finds = refl;
      rises = (let h = c.stamp.ensures.room.0 in omega (arith, h));
      clocks = (refl, c.stamp.ensures.room.1);
    })

pub load_lock-requires-clause-due : goal.load_lock-requires-clause-due
load_lock-requires-clause-due g c =
    let h = subst (λ (d : NextStep). Awaits (opening_of c.args.table.now) c.args.seat.now d) c.in-LoadLock.is c.requires.due in
    (h.spot, h.becomes)

pub load_lock-requires-clause-location : goal.load_lock-requires-clause-location
load_lock-requires-clause-location g c = subst (λ (d : NextStep). IsWithin (locations_in c.args.table.now) d) c.in-LoadLock.is
    c.requires.inside

pub returns-in-LoadLock : goal.returns-in-LoadLock
returns-in-LoadLock g c = subst
    (λ (d : NextStep). Touches (opening_of c.args.table.now) c.args.seat.now d c.load_lock.result c.load_lock.new.seat)
    (sym c.in-LoadLock.is)
    (record {
      clock = (view c.args.seat.now).clock;
      found = c.load_lock.result;
      takes = c.load_lock.ensures;
      finds = refl;
      rises = omega arith;
      clocks = tt;
    })

pub load_value-requires-clause-due : goal.load_value-requires-clause-due
load_value-requires-clause-due g c =
    let h = subst (λ (d : NextStep). Awaits (opening_of c.args.table.now) c.args.seat.now d) c.in-LoadValue.is c.requires.due in
    (h.spot, h.becomes)

pub load_value-requires-clause-location : goal.load_value-requires-clause-location
load_value-requires-clause-location g c =
    subst (λ (d : NextStep). IsWithin (locations_in c.args.table.now) d) c.in-LoadValue.is c.requires.inside

pub returns-in-LoadValue : goal.returns-in-LoadValue
returns-in-LoadValue g c = subst
    (λ (d : NextStep). Touches (opening_of c.args.table.now) c.args.seat.now d c.load_value.result c.load_value.new.seat)
    (sym c.in-LoadValue.is)
    (record {
      clock = (view c.args.seat.now).clock;
      found = c.load_value.result;
      takes = c.load_value.ensures;
      finds = refl;
      rises = omega arith;
      clocks = tt;
    })

pub try_lock-requires-clause-due : goal.try_lock-requires-clause-due
try_lock-requires-clause-due g c = subst (λ (d : NextStep). Awaits (opening_of c.args.table.now) c.args.seat.now d) c.in-Lock.is
    c.requires.due

pub try_lock-requires-clause-inside : goal.try_lock-requires-clause-inside
try_lock-requires-clause-inside g c = subst (λ (d : NextStep). IsWithin (locations_in c.args.table.now) d) c.in-Lock.is c.requires.inside

pub try_lock-requires-clause-room : goal.try_lock-requires-clause-room
try_lock-requires-clause-room g c = subst (λ (d : NextStep). IsInWord d) c.in-Lock.is c.requires.room

pub returns-in-Lock : goal.returns-in-Lock
returns-in-Lock g c =
    subst (λ (d : NextStep). Touches (opening_of c.args.table.now) c.args.seat.now d c.try_lock.result c.try_lock.new.seat)
    (sym c.in-Lock.is) c.try_lock.ensures

pub store_value-requires-clause-due : goal.store_value-requires-clause-due
store_value-requires-clause-due g c =
    let h = subst (λ (d : NextStep). Awaits (opening_of c.args.table.now) c.args.seat.now d) c.in-StoreValue.is c.requires.due in
    (h.spot, h.becomes)

pub store_value-requires-clause-location : goal.store_value-requires-clause-location
store_value-requires-clause-location g c =
    subst (λ (d : NextStep). IsWithin (locations_in c.args.table.now) d) c.in-StoreValue.is c.requires.inside

pub returns-in-StoreValue : goal.returns-in-StoreValue
returns-in-StoreValue g c = subst
    (λ (d : NextStep). Touches (opening_of c.args.table.now) c.args.seat.now d c.in-StoreValue.value c.store_value.new.seat)
    (sym c.in-StoreValue.is) (record {
      clock = (view c.args.seat.now).clock;
      found = c.store_value.ensures.0;
      takes = c.store_value.ensures.1;
      finds = tt;
      rises = omega arith;
      clocks = tt;
    })

pub store_lock-requires-clause-due : goal.store_lock-requires-clause-due
store_lock-requires-clause-due g c =
    let h = subst (λ (d : NextStep). Awaits (opening_of c.args.table.now) c.args.seat.now d) c.in-StoreLock.is c.requires.due in
    (h.spot, h.becomes)

pub store_lock-requires-clause-location : goal.store_lock-requires-clause-location
store_lock-requires-clause-location g c =
    subst (λ (d : NextStep). IsWithin (locations_in c.args.table.now) d) c.in-StoreLock.is c.requires.inside

pub returns-in-StoreLock : goal.returns-in-StoreLock
returns-in-StoreLock g c = subst
    (λ (d : NextStep). Touches (opening_of c.args.table.now) c.args.seat.now d c.in-StoreLock.word c.store_lock.new.seat)
    (sym c.in-StoreLock.is)
    (record {
      clock = (view c.args.seat.now).clock;
      found = c.store_lock.ensures.0;
      takes = c.store_lock.ensures.1;
      finds = tt;
      rises = omega arith;
      clocks = tt;
    })
