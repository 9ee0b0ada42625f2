use Rattle.vacation_core.proofs.ReceiptLemmas.{jobs_are_actions, replies_are_told}
use Rattle.vacation_core.proofs.job_laws.jobs_are_actions.Goals as goal

pub returns-clause-actions : goal.returns-clause-actions
returns-clause-actions c = jobs_are_actions

pub returns-clause-told : goal.returns-clause-told
returns-clause-told c = replies_are_told
