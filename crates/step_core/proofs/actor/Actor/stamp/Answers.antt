use Rattle.std.proofs.Common.{List, ℕ, arith, ap, sym, ◌∙◌}
use Rattle.tx_machine.specs.Notices.{LockedAt, when_none_left}
use Rattle.step_core.specs.Answers.{result_of}
use Rattle.step_core.proofs.Lists.{none_left, some_left}
use Rattle.step_core.proofs.actor.Actor.stamp.Goals as goal

pub returns-then-first-len-clause-answer : goal.returns-then-first-len-clause-answer
returns-then-first-len-clause-answer c =
    sym (ap (λ (ls : List ℕ). result_of (when_none_left ls (LockedAt c.args.clock))) (sym c.first_to_check-first.ensures.left)
    ∙ ap result_of (none_left c.args.self.now.reads.entries c.first_to_check-first.result (LockedAt c.args.clock)
    (omega (arith, c.if-first-len.true, c.len.ensures))))

pub returns-else-first-len-clause-answer : goal.returns-else-first-len-clause-answer
returns-else-first-len-clause-answer c =
    sym (ap (λ (ls : List ℕ). result_of (when_none_left ls (LockedAt c.args.clock))) (sym c.first_to_check-first.ensures.left)
    ∙ ap result_of (some_left c.args.self.now.reads.entries c.first_to_check-first.result (LockedAt c.args.clock)
    (omega (arith, c.if-first-len.false, c.len.ensures, c.first_to_check-first.ensures.inside))))
