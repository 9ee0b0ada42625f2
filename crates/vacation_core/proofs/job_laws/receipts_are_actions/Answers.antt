use Rattle.vacation_core.proofs.ReceiptLemmas.{receipts_are_actions}
use Rattle.vacation_core.proofs.job_laws.receipts_are_actions.Goals as goal

pub returns : goal.returns
returns c = receipts_are_actions
