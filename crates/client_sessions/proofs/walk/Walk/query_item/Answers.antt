use Rattle.std.proofs.Common.{◌∙◌, ap, Option}
use Rattle.std.proofs.lemmas.Result.{err_from_is_err_and}
use Rattle.seq_model.specs.Programs.{Answers}
use Rattle.vac_model.specs.declared.item.Item.{Item}
use Rattle.vac_model.specs.Actions as actions
use Rattle.client_sessions.specs.Sessions.{SessionProgram}
use Rattle.client_sessions.proofs.walk.Walk.query_item.Goals as goal

pub returns-in_err-item : goal.returns-in_err-item
returns-in_err-item c =
    let k : Option Item → SessionProgram = λ o. Answers (actions.item_reply o) in
    let p = err_from_is_err_and c.from_residual.result c.from_residual.ensures.1 in rw (p.1, p.2) (c.in_err-item.ensures.comes k)

pub returns-in-Some : goal.returns-in-Some
returns-in-Some c =
    let k : Option Item → SessionProgram = λ o. Answers (actions.item_reply o) in
    c.in_ok-item.ensures.comes k ∙ ap k c.in-Some.is

pub returns-in-None : goal.returns-in-None
returns-in-None c =
    let k : Option Item → SessionProgram = λ o. Answers (actions.item_reply o) in
    c.in_ok-item.ensures.comes k ∙ ap k c.in-None.is
