use Rattle.std.proofs.Common.{rules}
use Rattle.interleavings.proofs.FaultLemmas.{same_refusal}
use Rattle.interleavings.proofs.outcomes.outcome_of.Goals as goal

pub returns-in_err-run-clause-refused : goal.returns-in_err-run-clause-refused
returns-in_err-run-clause-refused c =
    let fault = same_refusal c.args.header.now c.in_ok-script.script c.in_err-run.field-0.0 c.in_ok-script.ensures.header
    c.in_err-run.ensures.refused in
    search (rules, fault)
