-- The law of every schedule, from the invariant.
use Rattle.std.proofs.Common.{ap, ◌∙◌, subst}
use Rattle.tx_machine.specs.World.{Memory, run, start}
use Rattle.tx_machine.specs.Opacity.{IsRun, memory_after}
use Rattle.tx_machine.proofs.Schedules.{reached, opened_at, idle_holds_none, run_saw, legal_of, serial, aborted_later, actor_saw}
use Rattle.tx_machine.proofs.Schedules.{words_at_rest, owned, begins_at}
use Rattle.tx_machine.proofs.laws.opacity.Goals as goal

pub returns : goal.returns
returns c = record {
  in_order = λ clock memory events. (reached clock memory events).ordered;
  serial = λ clock memory events.
      subst (λ (m : Memory). IsRun m (run events (start clock memory)).history) (opened_at clock memory events)
      (serial (run events (start clock memory)) (reached clock memory events));
  saw = λ clock memory events later a.
      let s = run events (start clock memory) in
      let v = reached clock memory events in
      legal_of (run later s) (s.actors a).rv (s.actors a).calls (run_saw later s (s.actors a).rv (s.actors a).calls v (actor_saw s a v));
  aborted = λ clock memory events later. aborted_later later (run events (start clock memory)) (reached clock memory events);
  words = λ clock memory events none l.
      words_at_rest (run events (start clock memory)) (reached clock memory events) none l
      ∙ ap (λ (m : Memory). memory_after m (run events (start clock memory)).history l) (opened_at clock memory events);
  owned = λ clock memory events event a l k h ne. owned (run events (start clock memory)) event a l k (reached clock memory events) h ne;
  begins = λ clock memory events a e h. begins_at (run events (start clock memory)) a (reached clock memory events) e h;
  idle = λ clock memory events a e. idle_holds_none (run events (start clock memory)) a (reached clock memory events) e;
}
