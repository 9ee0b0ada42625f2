use Rattle.seq_model.proofs.LawLemmas.{runs_have_no_fault, faults_are_determined}
use Rattle.seq_model.proofs.laws.audit_laws.Goals as goal

pub returns : goal.returns
returns g c = record { run = runs_have_no_fault; fault = faults_are_determined }
