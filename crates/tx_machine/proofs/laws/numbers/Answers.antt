use Rattle.tx_machine.specs.World.{run, start}
use Rattle.tx_machine.proofs.Schedules.{reached, all_upto}
use Rattle.tx_machine.proofs.Numbers.{unused_later}
use Rattle.tx_machine.proofs.laws.numbers.Goals as goal

pub returns : goal.returns
returns c = record {
  records = λ clock memory events. let s = run events (start clock memory) in all_upto s s.history (reached clock memory events).records;
  versions = λ clock memory events l. (reached clock memory events).versions l;
  unused = λ clock memory events later a ends. unused_later clock memory events later a ends;
}
