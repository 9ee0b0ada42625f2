use Rattle.std.proofs.Common.{rules}
use Rattle.command_line.proofs.work.output_of.Goals as goal

pub returns-in_err-text-in-OnFile-clause-refused : goal.returns-in_err-text-in-OnFile-clause-refused
returns-in_err-text-in-OnFile-clause-refused g c =
    let cause = c.in_err-text-in-OnFile.ensures.refused c.in-OnFile.work in
    search (rules, cause)
