use Rattle.std.specs.Prelude.{All}
use Rattle.rand.specs.Draw.{Gives}
use Rattle.vac_model.specs.Actions.{IsAmountWithin}
use Rattle.text_formats.specs.Draws.{times}
use Rattle.text_formats.specs.DrawnActions.{change_drawn}
use Rattle.text_formats.proofs.sessions.update.Given as goal

abbrev pub invariant-loop : goal.invariant-loop
invariant-loop g l = record {
  drawn : Gives (times l.counter (change_drawn l.greatest)) (g.R.Rng.stream l.initial.random) l.changes (g.R.Rng.stream l.random);
  within : All IsAmountWithin l.changes;
}
