use Rattle.seq_model.specs.declared.event.Notice.TheVariants.{Quiet}
use Rattle.vacation_core.proofs.ClientLemmas.{Waiting}
use Rattle.vacation_core.proofs.asking.ask.Given as goal

abbrev pub invariant-loop : goal.invariant-loop
invariant-loop l = Waiting l.fn.world.parts l.fn.actor l.fn.request l.world.parts Quiet l.counter
