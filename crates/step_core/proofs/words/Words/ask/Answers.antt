use Rattle.std.proofs.Common.{◌≡◌, ◌<◌, true, subst}
use Rattle.tx_machine.specs.Progress.{step_limit}
use Rattle.step_core.specs.Answers.{request_of}
use Rattle.step_core.specs.Shown.{Shown, shown, actor_in}
use Rattle.step_core.specs.Opaque.{steps_due}
use Rattle.step_core.proofs.Moves.{reached_asked}
use Rattle.step_core.specs.declared.answer.WordRefusal.TheVariants.{TooLong}
use Rattle.step_core.proofs.Laws.{soon}
use Rattle.step_core.proofs.Due.{due_of}
use Rattle.step_core.proofs.Limits.{unlimited}
use Rattle.step_core.proofs.words.Words.ask.Goals as goal

pub invariant_of-self : goal.invariant_of-self
invariant_of-self c = record {
  sound = c.ask.ensures.sound;
  reached = reached_asked (shown c.self.inside.machine) (shown c.ask.new.self) c.args.actor
      (request_of c.args.request) c.ask.result c.self.invariant.reached c.ask.ensures.asks c.ask.ensures.err;
}

pub returns-clause-reached : goal.returns-clause-reached
returns-clause-reached c = reached_asked (shown c.self.inside.machine) (shown c.ask.new.self) c.args.actor
    (request_of c.args.request) c.ask.result c.self.invariant.reached c.ask.ensures.asks c.ask.ensures.err

pub returns-clause-soon : goal.returns-clause-soon
returns-clause-soon c =
    soon c.ask.new.self c.args.actor c.ask.ensures.sound
    (reached_asked (shown c.self.inside.machine) (shown c.ask.new.self) c.args.actor
    (request_of c.args.request) c.ask.result c.self.invariant.reached c.ask.ensures.asks c.ask.ensures.err)

pub returns-in-Some-clause-soon : goal.returns-in-Some-clause-soon
returns-in-Some-clause-soon c =
    subst (λ (v : Shown). steps_due v c.args.actor < step_limit) c.self.view_is
    (soon c.self.inside.machine c.args.actor c.self.invariant.sound c.self.invariant.reached)

pub returns-in-Some-clause-unlimited : goal.returns-in-Some-clause-unlimited
returns-in-Some-clause-unlimited c =
    subst (λ (v : Shown). (actor_in v c.args.actor).declared ≡ true → c.in-Some.refusal ≡ TooLong → ⊥) c.self.view_is
    (unlimited (shown c.self.inside.machine) c.args.actor
    (request_of c.args.request) c.refusal.result c.in-Some.refusal c.self.invariant.reached c.refusal.ensures c.in-Some.is)

pub returns-clause-due : goal.returns-clause-due
returns-clause-due c =
    due_of (shown c.self.inside.machine) (shown c.ask.new.self) c.args.actor (request_of c.args.request) c.ask.result c.refusal.result
    c.self.invariant.reached c.refusal.ensures c.in_default.not-Some c.ask.ensures.asks
