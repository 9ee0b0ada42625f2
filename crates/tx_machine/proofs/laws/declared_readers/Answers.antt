use Rattle.tx_machine.specs.World.{run, start}
use Rattle.tx_machine.proofs.Schedules.{reached}
use Rattle.tx_machine.proofs.Declared.{begun_declared, stays_declared, anew, no_write, no_lock}
use Rattle.tx_machine.proofs.laws.declared_readers.Goals as goal

pub returns : goal.returns
returns c = record {
  begins = λ s a e. begun_declared s a e;
  stays = λ s a event d ne. stays_declared s a event d ne;
  anew = λ clock memory events a l d e. anew (run events (start clock memory)) a l (reached clock memory events) d e;
  write = λ clock memory events a l v d e. no_write (run events (start clock memory)) a l v d e;
  lock = λ clock memory events a d e. no_lock (run events (start clock memory)) a (reached clock memory events) d e;
}
