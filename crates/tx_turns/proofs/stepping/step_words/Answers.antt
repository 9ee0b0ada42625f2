use Rattle.std.proofs.Common.{subst}
use Rattle.tx_machine.specs.World.{plan}
use Rattle.step_core.specs.Shown.{actor_of}
use Rattle.shared_table.specs.Seated.{locations_in}
use Rattle.tx_turns.specs.NextStep.{IsDeed}
use Rattle.tx_turns.specs.declared.due.NextStep.{NextStep}
use Rattle.tx_turns.proofs.NextStepLemmas.{has_clock, in_word}
use Rattle.tx_turns.proofs.stepping.step_words.Goals as goal

pub next_step-due-requires : goal.next_step-due-requires
next_step-due-requires g c = record { fits = (locations_in c.args.table.now, c.requires.fits) }

pub touch-found-requires-clause-inside : goal.touch-found-requires-clause-inside
touch-found-requires-clause-inside g c = c.next_step-due.ensures.inside (locations_in c.args.table.now) c.requires.fits

pub touch-found-requires-clause-some : goal.touch-found-requires-clause-some
touch-found-requires-clause-some g c = λ e. c.requires.some
    (subst (λ (d : NextStep). IsDeed d (plan (actor_of c.args.actor.now) (actor_of c.args.actor.now).place)) e c.next_step-due.ensures.deed)

pub touch-found-requires-clause-room : goal.touch-found-requires-clause-room
touch-found-requires-clause-room g c =
    in_word c.next_step-due.result (plan (actor_of c.args.actor.now) (actor_of c.args.actor.now).place) c.next_step-due.ensures.deed

pub touch-found-requires-clause-due : goal.touch-found-requires-clause-due
touch-found-requires-clause-due g c = c.requires.due c.next_step-due.result c.next_step-due.ensures.deed

pub learn-requires-clause-fits : goal.learn-requires-clause-fits
learn-requires-clause-fits g c = (locations_in c.args.table.now, c.requires.fits)

pub learn-requires-clause-clock : goal.learn-requires-clause-clock
learn-requires-clause-clock g c = has_clock c.args.actor.now c.next_step-due.result c.touch-found.result c.touch-found.ensures.clock
    c.next_step-due.ensures.deed c.touch-found.ensures.clocks

pub returns-clause-steps : goal.returns-clause-steps
returns-clause-steps g c = record {
  due = c.next_step-due.result;
  number = c.touch-found.result;
  deed = c.next_step-due.ensures.deed;
  touches = c.touch-found.ensures;
  learns = c.learn.ensures.learns;
}
