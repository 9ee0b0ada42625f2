use Rattle.text_formats.specs.Openings.{AreItems}
use Rattle.text_formats.proofs.tables.items.Given as goal

abbrev pub invariant-loop-before : goal.invariant-loop-before
invariant-loop-before g l = AreItems l.before (g.R.Rng.stream l.initial.random) l.items (g.R.Rng.stream l.random)
