use Rattle.std.proofs.Common.{arith, ap, sym}
use Rattle.tx_machine.specs.Notices.{Stored}
use Rattle.step_core.specs.Answers.{result_of}
use Rattle.step_core.proofs.Lists.{none_left, some_left}
use Rattle.step_core.proofs.actor.Actor.first.Goals as goal

pub returns-then-len-eq1-clause-answer : goal.returns-then-len-eq1-clause-answer
returns-then-len-eq1-clause-answer c = ap result_of (sym (none_left c.args.self.now.writes.entries 1 Stored (omega arith)))

pub returns-else-len-eq1-clause-answer : goal.returns-else-len-eq1-clause-answer
returns-else-len-eq1-clause-answer c = ap result_of (sym (some_left c.args.self.now.writes.entries 1 Stored (omega arith)))
