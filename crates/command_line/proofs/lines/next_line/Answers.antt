use Rattle.command_line.proofs.LineLemmas.{missed_next}
use Rattle.command_line.proofs.lines.next_line.Goals as goal

pub returns-then-is_next_missed : goal.returns-then-is_next_missed
returns-then-is_next_missed c = λ o os later is.
    missed_next _ _ _ o os later _ _ _ c.in-Some.job.now is (c.is_next_missed.ensures.0 c.if-is_next_missed.true)
    c.in-Some.ensures.cases.0
