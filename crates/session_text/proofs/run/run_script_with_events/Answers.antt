use Rattle.std.proofs.Common.{List, refl, subst, sym}
use Rattle.seq_model.specs.declared.event.Event.{Event}
use Rattle.std.specs.Prelude.{ℕ}
use Rattle.session_text.specs.Plays.{IsRunBy}
use Rattle.session_text.proofs.run.run_script_with_events.Goals as goal

pub returns-clause-run : goal.returns-clause-run
returns-clause-run c =
    let kept = c.in_ok-made.ensures.run in
    subst (λ (es : List (Event ℕ)). IsRunBy c.args.script.now es c.in_ok-made.made.0) (sym (kept.1.1 refl)) kept.1.0
