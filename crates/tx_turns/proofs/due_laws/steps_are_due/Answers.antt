use Rattle.tx_turns.proofs.OwnLemmas.{own_due}
use Rattle.tx_turns.proofs.due_laws.steps_are_due.Goals as goal

pub returns : goal.returns
returns g c = λ key a u reached due e. own_due key a u reached due e
