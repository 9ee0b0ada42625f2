use Rattle.tx_machine.specs.World.{run, start}
use Rattle.tx_machine.proofs.Schedules.{reached}
use Rattle.tx_machine.proofs.Refusals.{notice_true, notice_names, commit_kept, conflict_ends, still_ends, ending_values, gives_old}
use Rattle.tx_machine.proofs.laws.refusals.Goals as goal

pub returns : goal.returns
returns c = record {
  cause = λ clock memory events a. let s = run events (start clock memory) in notice_true s (s.actors a) (s.actors a).place
      ((reached clock memory events).actors a).place;
  located = λ s x p. notice_names s x p;
  ends = λ s a h. conflict_ends s a (s.actors a) (s.actors a).place h;
  stays = λ s event a h. still_ends s event a h;
  stores_nothing = λ s a l h. ending_values s a (s.actors a) (s.actors a).place l h;
  locked = λ clock memory events a l k h. ((reached clock memory events).actors a).held l k h;
  back = λ s a l k rest e h. gives_old s a l k rest e h;
  committed = λ clock memory events a c h. let s = run events (start clock memory) in commit_kept s (s.actors a) (s.actors a).place
      ((reached clock memory events).actors a).place c h;
}
