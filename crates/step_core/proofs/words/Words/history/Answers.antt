use Rattle.std.proofs.Common.{subst}
use Rattle.step_core.specs.Opaque.{Opaque, AreNumbered}
use Rattle.step_core.proofs.Laws.{opaque_of, numbered_of}
use Rattle.step_core.proofs.words.Words.history.Goals as goal

pub returns-clause-opaque : goal.returns-clause-opaque
returns-clause-opaque c = subst Opaque c.self.view_is (opaque_of _ c.self.invariant.reached)

pub returns-clause-numbered : goal.returns-clause-numbered
returns-clause-numbered c = subst AreNumbered c.self.view_is (numbered_of _ c.self.invariant.reached)
