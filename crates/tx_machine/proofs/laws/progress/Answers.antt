use Rattle.tx_machine.specs.World.{run, start}
use Rattle.tx_machine.proofs.Schedules.{reached}
use Rattle.tx_machine.proofs.Progress.{progress}
use Rattle.tx_machine.proofs.AnswerBound.{answered}
use Rattle.tx_machine.proofs.Due.{leaves_due}
use Rattle.tx_machine.proofs.Short.{few}
use Rattle.tx_machine.proofs.laws.progress.Goals as goal

pub returns : goal.returns
returns c = record {
  due = λ clock memory events a request changed quiet. leaves_due (run events (start clock memory)) a request
      (reached clock memory events) changed quiet;
  nearer = λ clock memory events a h. progress (run events (start clock memory)) a (reached clock memory events) h;
  answered = λ clock memory events later a h asks enough. answered later (run events (start clock memory)) a
      (reached clock memory events) h asks enough;
  few = λ clock memory events a r w. few events clock memory a r w;
}
