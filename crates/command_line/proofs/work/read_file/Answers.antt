use Rattle.std.proofs.lemmas.Result.{err_from_is_err_and}
use Rattle.command_line.proofs.OutputLemmas.{memory_is_cause}
use Rattle.command_line.proofs.work.read_file.Goals as goal

pub returns-in_err-extend_from_slice-clause-refused : goal.returns-in_err-extend_from_slice-clause-refused
returns-in_err-extend_from_slice-clause-refused g c = λ work.
    let p = err_from_is_err_and c.from_residual.result c.from_residual.ensures.1 in rw (p.1, p.2) (memory_is_cause work _)
