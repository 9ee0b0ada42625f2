use Rattle.session_text.proofs.ScriptRunLemmas.{held_where}
use Rattle.session_text.proofs.audit.audit_run.Goals as goal

pub returns-clause-ok : goal.returns-clause-ok
returns-clause-ok c = held_where _ _ c.audit_records.result (rw c.as_slice-records.ensures at c.audit_records.ensures.ok)

pub returns-clause-fault : goal.returns-clause-fault
returns-clause-fault c = rw c.as_slice-records.ensures at c.audit_records.ensures.fault
