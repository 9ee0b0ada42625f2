use Rattle.rand.specs.Draw.{Gives}
use Rattle.text_formats.specs.Draws.{times}
use Rattle.text_formats.specs.DrawnActions.{ask_drawn}
use Rattle.text_formats.proofs.sessions.reservation.Given as goal

abbrev pub invariant-loop : goal.invariant-loop
invariant-loop g l = Gives (times l.counter (ask_drawn l.greatest)) (g.R.Rng.stream l.initial.random) l.asks (g.R.Rng.stream l.random)
