use Rattle.std.proofs.Common.{refl, arith}
use Rattle.shared_table.specs.Seated.{view}
use Rattle.tx_turns.proofs.touching.try_lock.Goals as goal

pub lock-requires-clause-due : goal.lock-requires-clause-due
lock-requires-clause-due g c = (c.requires.due.spot, c.requires.due.becomes)

pub returns-in-None : goal.returns-in-None
returns-in-None g c = record {
  clock = (view c.args.seat.now).clock;
  found = c.args.old;
  takes = c.in-None.ensures;
  finds = refl;
  rises = omega arith;
  clocks = tt;
}

pub returns-in-Some : goal.returns-in-Some
returns-in-Some g c = record {
  clock = (view c.args.seat.now).clock;
  found = c.in-Some.found;
  takes = c.in-Some.ensures.1;
  finds = refl;
  rises = omega arith;
  clocks = tt;
}
