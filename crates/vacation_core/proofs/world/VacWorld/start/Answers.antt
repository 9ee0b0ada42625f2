use Rattle.std.proofs.Common.{subst, sym}
use Rattle.std.proofs.lemmas.Result.{IfOk-weaker}
use Rattle.vacation_core.specs.Plays.{begins}
use Rattle.vacation_core.specs.Running.{IsPlay}
use Rattle.vacation_core.proofs.NextSessionLemmas.{of_actor, of_none}
use Rattle.vacation_core.proofs.world.VacWorld.start.Goals as goal

pub begin-requires-clause-place : goal.begin-requires-clause-place
begin-requires-clause-place c = record { inside = c.in-Some.ensures.2; count = c.requires.play.is.on.count }

pub returns-in-Some : goal.returns-in-Some
returns-in-Some c =
    IfOk-weaker c.begin.result _ _ (λ _ h p k. of_actor c.begin.new.self c.args.actor (begins c.args.actor c.args.action.now p) _
    c.in-Some.ensures.1
    (subst (λ a. IsPlay c.begin.new.self (begins a c.args.action.now p)) (sym c.in-Some.ensures.0) (h p k))) c.begin.ensures

pub returns-in-None : goal.returns-in-None
returns-in-None c =
    IfOk-weaker c.end.result _ _ (λ _ h p k. of_none c.end.new.self c.args.actor (begins c.args.actor c.args.action.now p) _
    c.in-None.ensures (h p k)) c.end.ensures
