use Rattle.std.proofs.Common.{◌∙◌, ap, Option}
use Rattle.std.specs.Option.{option_copied}
use Rattle.std.proofs.lemmas.Result.{err_from_is_err_and}
use Rattle.seq_model.specs.Programs.{Answers}
use Rattle.vac_model.specs.declared.item.Customer.{Customer}
use Rattle.vac_model.specs.Actions as actions
use Rattle.client_sessions.specs.Sessions.{SessionProgram}
use Rattle.client_sessions.proofs.walk.Walk.query_bill.Goals as goal

pub returns-in_err-who : goal.returns-in_err-who
returns-in_err-who c =
    let k : Option Customer → SessionProgram = λ o. Answers (actions.bill_reply o) in
    let p = err_from_is_err_and c.from_residual.result c.from_residual.ensures.1 in rw (p.1, p.2) (c.in_err-who.ensures.comes k)

pub returns-in-Some : goal.returns-in-Some
returns-in-Some c =
    let k : Option Customer → SessionProgram = λ o. Answers (actions.bill_reply o) in
    let h = c.in_ok-who.ensures.comes k ∙ ap (λ o. k (option_copied o)) c.in-Some.is in
    cc

pub returns-in-None : goal.returns-in-None
returns-in-None c =
    let k : Option Customer → SessionProgram = λ o. Answers (actions.bill_reply o) in
    c.in_ok-who.ensures.comes k ∙ ap (λ o. k (option_copied o)) c.in-None.is
