use Rattle.std.proofs.Common.{◌+◌, arith, ap, sym}
use Rattle.tx_machine.specs.Notices.{LockedAt}
use Rattle.step_core.specs.Answers.{result_of}
use Rattle.step_core.proofs.Lists.{none_left, some_left}
use Rattle.step_core.proofs.actor.Actor.pass.Goals as goal

pub returns-then-i-len-clause-answer : goal.returns-then-i-len-clause-answer
returns-then-i-len-clause-answer c = ap result_of
    (sym (none_left c.args.self.now.reads.entries (c.args.i + 1) (LockedAt c.args.self.now.wv) (omega arith)))

pub returns-else-i-len-clause-answer : goal.returns-else-i-len-clause-answer
returns-else-i-len-clause-answer c = ap result_of
    (sym (some_left c.args.self.now.reads.entries (c.args.i + 1) (LockedAt c.args.self.now.wv) (omega arith)))
