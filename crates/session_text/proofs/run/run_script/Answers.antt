use Rattle.session_text.proofs.run.run_script.Goals as goal

pub returns-clause-run : goal.returns-clause-run
returns-clause-run c = (c.in_ok-made.ensures.run.0, c.in_ok-made.ensures.run.1.0)
