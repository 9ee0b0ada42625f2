use Rattle.std.proofs.Common.{IfOk, subst}
use Rattle.step_world.specs.Parts.{IsWorld}
use Rattle.step_world.specs.Reached.{IsReached}
use Rattle.step_world.specs.Serial.{IsFrom}
use Rattle.step_world.specs.Traces.{IsSerialTrace, IsTraceOf}
use Rattle.step_world.specs.Worlds.{WorldShown}
use Rattle.step_world.proofs.SerialLemmas.{serial_traced}
use Rattle.step_world.proofs.world.World.trace.Goals as goal

pub trace-requires : goal.trace-requires
trace-requires g c = c.self.invariant c.if-self.false

pub returns-clause-trace : goal.returns-clause-trace
returns-clause-trace g c =
    subst (λ (s : WorldShown g.row.V.Denot). IfOk c.trace.result (λ t. (o : _) (w : _) → IsReached o w → IsWorld s.parts w → IsTraceOf w t))
    c.self.view_is c.trace.ensures.trace

pub returns-clause-serial : goal.returns-clause-serial
returns-clause-serial g c =
    subst (λ (s : WorldShown g.row.V.Denot). IfOk c.trace.result (λ t. (o : _) → IsFrom o s.parts → IsSerialTrace o t))
    c.self.view_is (serial_traced c.self.inside.parts c.trace.result c.trace.ensures.serial)
