use Rattle.std.proofs.Common.{◌∙◌, List, subst}
use Rattle.std.specs.Prelude.{IfErr, OnOk}
use Rattle.seq_model.specs.declared.record.Record.{Record}
use Rattle.seq_model.specs.Audit.{IsAuditFault, IsRunBetween}
use Rattle.actor_parts.proofs.AuditLemmas.{audited, reached}
use Rattle.actor_parts.proofs.auditing.audit_records.Goals as goal

pub returns-clause-ok : goal.returns-clause-ok
returns-clause-ok g c = subst (λ (rs : List (Record _)). OnOk c.audit.result (IsRunBetween c.args.opening.now rs c.args.last.now))
    (c.as_slice.ensures.value ∙ c.in_ok-copies.ensures) c.audit.ensures.ok

pub returns-clause-fault : goal.returns-clause-fault
returns-clause-fault g c = subst (λ (rs : List (Record _)). IfErr c.audit.result (IsAuditFault c.args.opening.now rs c.args.last.now))
    (c.as_slice.ensures.value ∙ c.in_ok-copies.ensures) c.audit.ensures.fault

pub returns-clause-none : goal.returns-clause-none
returns-clause-none g c = audited c.args.opening.now c.args.last.now c.as_slice.result.now c.args.records.now c.audit.result
    (c.as_slice.ensures.value ∙ c.in_ok-copies.ensures) c.audit.ensures.fault

pub returns-clause-reached : goal.returns-clause-reached
returns-clause-reached g c = reached c.args.opening.now c.args.last.now c.as_slice.result.now c.args.records.now c.audit.result
    (c.as_slice.ensures.value ∙ c.in_ok-copies.ensures) c.audit.ensures.fault
