use Rattle.shared_table.proofs.Opened as opened
use Rattle.shared_table.proofs.laws.gate_steps.Goals as goal

pub returns : goal.returns
returns g c = record { take = opened.take; put = opened.put; home = opened.home }
