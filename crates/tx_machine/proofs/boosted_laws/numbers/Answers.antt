use Rattle.tx_machine.proofs.Runs.{unused_later}
use Rattle.tx_machine.proofs.boosted_laws.numbers.Goals as goal

pub returns : goal.returns
returns g k = record { unused = λ c f clock memory parts actions later a ends. unused_later c f clock memory parts actions later a ends }
