use Rattle.std.proofs.Common.{subst}
use Rattle.step_core.specs.Shown.{Shown, shown}
use Rattle.step_core.specs.Opaque.{KeepsOthers, BeginsAbove, HasCause, Nears}
use Rattle.step_core.proofs.Moves.{reached_step}
use Rattle.step_core.proofs.Laws.{keeps_others, begins_above, has_cause, nears}
use Rattle.step_core.proofs.words.Words.step.Goals as goal

pub invariant_of-self : goal.invariant_of-self
invariant_of-self c = record {
  sound = c.step.ensures.sound;
  reached = reached_step _ (shown c.step.new.self) c.args.actor c.step.result c.self.invariant.reached c.step.ensures.steps;
}

pub returns-clause-others : goal.returns-clause-others
returns-clause-others c =
    subst (λ (z : Shown). KeepsOthers z c.args.actor (shown c.step.new.self)) c.self.view_is
    (keeps_others (shown c.self.inside.machine)
    (shown c.step.new.self) c.args.actor c.step.result c.self.invariant.reached c.step.ensures.steps)

pub returns-clause-begins : goal.returns-clause-begins
returns-clause-begins c =
    subst (λ (z : Shown). BeginsAbove z c.args.actor (shown c.step.new.self)) c.self.view_is
    (begins_above (shown c.self.inside.machine)
    (shown c.step.new.self) c.args.actor c.step.result c.self.invariant.reached c.step.ensures.steps)

pub returns-clause-reached : goal.returns-clause-reached
returns-clause-reached c = reached_step _ (shown c.step.new.self) c.args.actor c.step.result c.self.invariant.reached c.step.ensures.steps

pub returns-clause-nearer : goal.returns-clause-nearer
returns-clause-nearer c =
    subst (λ (z : Shown). Nears z c.args.actor (shown c.step.new.self) c.step.result) c.self.view_is
    (nears (shown c.self.inside.machine) (shown c.step.new.self) c.args.actor c.step.result c.self.invariant.reached c.step.ensures.steps)

pub returns-clause-cause : goal.returns-clause-cause
returns-clause-cause c =
    subst (λ (z : Shown). HasCause z c.args.actor c.step.result) c.self.view_is
    (has_cause (shown c.self.inside.machine) (shown c.step.new.self) c.args.actor c.step.result c.step.ensures.steps)
