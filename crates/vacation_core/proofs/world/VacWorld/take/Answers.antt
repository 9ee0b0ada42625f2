use Rattle.std.proofs.Common.{subst, sym}
use Rattle.std.proofs.lemmas.Result.{IfOk-weaker}
use Rattle.vacation_core.specs.Plays.{IsMoveOf, takes}
use Rattle.vacation_core.specs.Running.{IsPlay}
use Rattle.vacation_core.proofs.NextSessionLemmas.{of_actor, of_none}
use Rattle.vacation_core.proofs.world.VacWorld.take.Goals as goal

pub take_at-requires-clause-place : goal.take_at-requires-clause-place
take_at-requires-clause-place c = record { inside = c.in-Some.ensures.2; count = c.requires.play.is.on.count }

pub take_at-requires-clause-own : goal.take_at-requires-clause-own
take_at-requires-clause-own c = subst (λ a. IsMoveOf a c.args.event) c.in-Some.ensures.0 c.requires.own

pub returns-in-Some : goal.returns-in-Some
returns-in-Some c =
    IfOk-weaker c.take_at.result _ _
    (λ _ h p k. of_actor c.take_at.new.self c.args.actor (takes c.args.actor c.args.event p) p
    c.in-Some.ensures.1
    (subst (λ a. IsPlay c.take_at.new.self (takes a c.args.event p)) (sym c.in-Some.ensures.0) (h p k))) c.take_at.ensures

pub returns-in-None : goal.returns-in-None
returns-in-None c = λ p k. of_none c.args.self.now c.args.actor (takes c.args.actor c.args.event p) p c.in-None.ensures k
