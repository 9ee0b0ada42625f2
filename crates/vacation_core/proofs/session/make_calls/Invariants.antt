use Rattle.std.specs.Prelude.{◌≤◌}
use Rattle.seq_model.specs.declared.limits.TheConstants.{CALL_LIMIT}
use Rattle.vacation_core.proofs.SessionLemmas.{Makes}
use Rattle.vacation_core.proofs.session.make_calls.Given as goal

abbrev pub invariant-loop : goal.invariant-loop
invariant-loop l = Makes l.session l.fn.world.parts l.world.parts l.replies.items l.counter × (l.counter ≤ CALL_LIMIT)
