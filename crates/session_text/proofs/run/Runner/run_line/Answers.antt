use Rattle.seq_model.specs.declared.event.Event.TheVariants.{Ask}
use Rattle.session_text.proofs.PlayLemmas.{done_quiet, played_on}
use Rattle.session_text.proofs.run.Runner.run_line.Goals as goal

pub returns-in_ok-steps-in-Do : goal.returns-in_ok-steps-in-Do
returns-in_ok-steps-in-Do c =
    rw c.in-Do.is
    (played_on (λ xs ys ms ns _ _ _ one steps. done_quiet c.in-Do.actor (Ask c.in-Do.actor c.in-Do.request) xs ys ms ns one steps)
    (rw c.if-branch.true at c.in_ok-ask-in-Do.ensures) c.in_ok-steps-in-Do.ensures)

pub returns-in-Alternate : goal.returns-in-Alternate
returns-in-Alternate c = rw c.in-Alternate.is c.alternate.ensures
