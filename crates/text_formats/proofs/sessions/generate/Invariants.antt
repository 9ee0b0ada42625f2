use Rattle.std.specs.Prelude.{All}
use Rattle.rand.specs.Draw.{Gives}
use Rattle.rand_core.specs.Steps.{stream_of, steps_u32}
use Rattle.rand_pcg.specs.Pcg.{pcg32}
use Rattle.vac_model.specs.Actions.{IsAllowed}
use Rattle.text_formats.specs.Draws.{stream_for, times}
use Rattle.text_formats.specs.DrawnActions.{session_drawn}
use Rattle.text_formats.proofs.sessions.generate.Given as goal

abbrev pub invariant-loop : goal.invariant-loop
invariant-loop l = record {
  drawn : Gives (times l.counter (session_drawn l.fn.options)) (stream_for l.fn.seed l.fn.worker) l.actions.items
      (stream_of (steps_u32 pcg32) l.random);
  allowed : All IsAllowed l.actions.items;
}
