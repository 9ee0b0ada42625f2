use Rattle.std.proofs.Common.{subst, List}
use Rattle.vac_model.specs.declared.action.Action.{Action}
use Rattle.session_text.specs.Runs.{IsSessionRun}
use Rattle.session_text.proofs.output.output_of.Goals as goal

pub returns-clause-output : goal.returns-clause-output
returns-clause-output g c = record {
  tables = c.in_ok-tables.tables;
  actions = c.in_ok-tables.actions.items;
  run = c.in_ok-run.run';
  spelled = c.in_ok-tables.ensures.sessions;
  made = subst (λ (actions : List Action). IsSessionRun c.in_ok-tables.tables actions c.in_ok-run.run') c.as_slice.ensures.value
      c.in_ok-run.ensures.run;
  written = c.in_ok-text_of.ensures;
}
