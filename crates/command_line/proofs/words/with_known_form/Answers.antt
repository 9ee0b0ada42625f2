use Rattle.std.proofs.Common.{sym, subst}
use Rattle.clap.specs.Words.{FailsBy, Kinds}
use Rattle.command_line.proofs.words.with_known_form.Goals as goal

pub returns-in-Some-clause-faults : goal.returns-in-Some-clause-faults
returns-in-Some-clause-faults c =
    subst (λ (kinds : Kinds). FailsBy kinds c.refuse_form.result) (sym c.in-Some.ensures) c.refuse_form.ensures.faults
