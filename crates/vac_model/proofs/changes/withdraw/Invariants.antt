use Rattle.std.proofs.Common.{◌≡◌, drop}
use Rattle.vac_model.specs.Overlays.{without}
use Rattle.vac_model.proofs.changes.withdraw.Given as goal

abbrev pub invariant-loop-key : goal.invariant-loop-key
invariant-loop-key g l = without l.below (drop l.key-index l.added) ≡ without l.fn.below l.fn.added
