use Rattle.std.proofs.Common.{◌∙◌}
use Rattle.clap.specs.Words.{found_of, rows_of}
use Rattle.command_line.proofs.WordLemmas.{task_met, task_missed}
use Rattle.command_line.proofs.words.task_in.Goals as goal

pub returns-in-Some-clause-task : goal.returns-in-Some-clause-task
returns-in-Some-clause-task c =
    c.task_of_words.ensures.task
    ∙ task_met c.args.matches.now c.in-Some.name.now (rows_of (found_of c.in-Some.words.now)) c.in-Some.ensures.name c.in-Some.ensures.rows

pub returns-in-None-clause-task : goal.returns-in-None-clause-task
returns-in-None-clause-task c = task_missed c.args.matches.now c.in-None.ensures.name
