use Rattle.tx_engine.proofs.StepLemmas.{serial_between}
use Rattle.tx_engine.proofs.laws.tables_are_serial.Goals as goal

pub returns : goal.returns
returns g c opening s rule = serial_between c.worlds_are_serial.ensures opening s rule
