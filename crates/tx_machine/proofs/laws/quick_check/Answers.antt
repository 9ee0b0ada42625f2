use Rattle.tx_machine.proofs.Declared.{made}
use Rattle.tx_machine.proofs.laws.quick_check.Goals as goal

pub returns-clause-made : goal.returns-clause-made
returns-clause-made c = made
