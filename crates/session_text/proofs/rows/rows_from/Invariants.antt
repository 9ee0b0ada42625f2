use Rattle.std.proofs.Common.{take}
use Rattle.step_world.specs.Parts.{HasWorld}
use Rattle.session_text.specs.Rows.{AreFed}
use Rattle.session_text.proofs.rows.rows_from.Given as goal

abbrev pub invariant-loop-event : goal.invariant-loop-event
invariant-loop-event l = record {
  fed : AreFed l.fn.parts (take l.event-index l.events) l.rows l.parts;
  world : HasWorld l.parts;
}
