use Rattle.shared_table.proofs.Keeps.{word_allowed, clock_allowed}
use Rattle.shared_table.proofs.laws.word_steps.Goals as goal

pub returns : goal.returns
returns g c = record { any = word_allowed; clock = clock_allowed }
