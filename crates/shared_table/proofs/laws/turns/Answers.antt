use Rattle.shared_table.proofs.Turned.{word_own, records_grow}
use Rattle.shared_table.proofs.laws.turns.Goals as goal

pub returns : goal.returns
returns g c = record { word = word_own; records = records_grow }
