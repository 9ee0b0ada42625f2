use Rattle.std.proofs.Common.{arith}
use Rattle.step_core.specs.declared.machine.Machine.{Machine}
use Rattle.step_core.proofs.Openings.{shows_opening, reached_opening, sound_opening}
use Rattle.step_core.proofs.words.Words.new.Goals as goal

pub invariant_of-result : goal.invariant_of-result
invariant_of-result c =
    let w : Machine = record {
      cells = record { clock = c.args.clock; locks = c.in-Ok.locks; values = c.args.values };
      actors = c.in-Ok-seats.actors;
      history = c.new.result;
    } in
    record {
      sound = sound_opening w (omega
          (arith, c.in-Ok.ensures.count, c.len-2.ensures)) c.in-Ok-seats.ensures.count c.in-Ok-seats.ensures.blank
          (omega (arith, c.if-clock-gt-CLOCK_LIMIT.false)) c.new.ensures.len;
      reached = reached_opening w c.in-Ok.ensures.zero c.in-Ok-seats.ensures.blank c.new.ensures.items;
    }

pub returns-clause-shows : goal.returns-clause-shows
returns-clause-shows c =
    let w : Machine = record {
      cells = record { clock = c.args.clock; locks = c.in-Ok.locks; values = c.args.values };
      actors = c.in-Ok-seats.actors;
      history = c.new.result;
    } in
    shows_opening w c.in-Ok.ensures.zero c.in-Ok-seats.ensures.blank c.new.ensures.items

pub returns-clause-reached : goal.returns-clause-reached
returns-clause-reached c =
    let w : Machine = record {
      cells = record { clock = c.args.clock; locks = c.in-Ok.locks; values = c.args.values };
      actors = c.in-Ok-seats.actors;
      history = c.new.result;
    } in
    reached_opening w c.in-Ok.ensures.zero c.in-Ok-seats.ensures.blank c.new.ensures.items
