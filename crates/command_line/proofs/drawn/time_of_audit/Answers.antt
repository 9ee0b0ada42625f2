use Rattle.std.proofs.Common.{rules}
use Rattle.command_line.proofs.drawn.time_of_audit.Goals as goal

pub returns-in_err-tables-clause-finding : goal.returns-in_err-tables-clause-finding
returns-in_err-tables-clause-finding g c = search (rules, c.in_err-tables.ensures.finding)
