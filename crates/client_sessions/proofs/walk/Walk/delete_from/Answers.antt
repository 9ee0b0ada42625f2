use Rattle.std.proofs.Common.{◌∙◌, ap, sym}
use Rattle.std.proofs.lemmas.Result.{err_from_is_err_and}
use Rattle.seq_model.specs.Programs.{after, Answers}
use Rattle.vac_model.specs.declared.action.ActionReply.TheVariants as reply
use Rattle.vac_model.specs.declared.item.Customer.{Customer}
use Rattle.vac_model.specs.Actions as actions
use Rattle.client_sessions.specs.Sessions as programs
use Rattle.client_sessions.specs.Sessions.{SessionProgram}
use Rattle.client_sessions.proofs.WalkLemmas.{stops_along}
use Rattle.client_sessions.proofs.walk.Walk.delete_from.Goals as goal

-- what comes after the units, the waits and the customer
abbrev pub serves : Customer → SessionProgram
serves who = programs.serve_all who.bookings (λ served. Answers (reply.Deleted (actions.bill who.bookings) served))

pub returns-in_err-give_back_from : goal.returns-in_err-give_back_from
returns-in_err-give_back_from c = let p = err_from_is_err_and c.from_residual.result c.from_residual.ensures.1 in
    let who = c.args.who.now in
    rw (p.1, p.2) (c.in_err-give_back_from.ensures (programs.forget_all who.waits (programs.remove_customer c.args.customer (serves who))))

pub returns-in_err-forget_all : goal.returns-in_err-forget_all
returns-in_err-forget_all c =
    let p = err_from_is_err_and c.from_residual-in_err-forget_all.result c.from_residual-in_err-forget_all.ensures.1 in
    let who = c.args.who.now in
    let rest : SessionProgram = programs.remove_customer c.args.customer (serves who) in
    rw (p.1, p.2) (stops_along _ _ _
    (c.in_ok-give_back_from.ensures (programs.forget_all who.waits rest)
    ∙ ap (λ waits. after (programs.forget_all waits rest) c.give_back_from.new.self) (sym c.waits.ensures))
    (c.in_err-forget_all.ensures rest))

pub returns-in_err-remove_customer : goal.returns-in_err-remove_customer
returns-in_err-remove_customer c =
    let p = err_from_is_err_and c.from_residual-in_err-remove_customer.result c.from_residual-in_err-remove_customer.ensures.1 in
    let who = c.args.who.now in
    let rest : SessionProgram = programs.remove_customer c.args.customer (serves who) in
    rw (p.1, p.2) (stops_along _ _ _
    (c.in_ok-give_back_from.ensures (programs.forget_all who.waits rest)
    ∙ ap (λ waits. after (programs.forget_all waits rest) c.give_back_from.new.self) (sym c.waits.ensures)
    ∙ c.in_ok-forget_all.ensures rest)
    (c.in_err-remove_customer.ensures (serves who)))

pub returns-in_err-served : goal.returns-in_err-served
returns-in_err-served c =
    let p = err_from_is_err_and c.from_residual-in_err-served.result c.from_residual-in_err-served.ensures.1 in
    let who = c.args.who.now in
    let rest : SessionProgram = programs.remove_customer c.args.customer (serves who) in
    rw (p.1, p.2) (stops_along _ _ _
    (c.in_ok-give_back_from.ensures (programs.forget_all who.waits rest)
    ∙ ap (λ waits. after (programs.forget_all waits rest) c.give_back_from.new.self) (sym c.waits.ensures)
    ∙ c.in_ok-forget_all.ensures rest
    ∙ c.in_ok-remove_customer.ensures (serves who))
    (c.in_err-served.ensures (λ served. Answers (reply.Deleted (actions.bill who.bookings) served))))

pub returns : goal.returns
returns c =
    let who = c.args.who.now in
    let rest : SessionProgram = programs.remove_customer c.args.customer (serves who) in
    c.in_ok-give_back_from.ensures (programs.forget_all who.waits rest)
    ∙ ap (λ waits. after (programs.forget_all waits rest) c.give_back_from.new.self) (sym c.waits.ensures)
    ∙ c.in_ok-forget_all.ensures rest
    ∙ c.in_ok-remove_customer.ensures (serves who)
    ∙ c.in_ok-served.ensures (λ served. Answers (reply.Deleted (actions.bill who.bookings) served))
    ∙ ap (λ n. Answers (reply.Deleted n c.in_ok-served.served)) (sym c.bill.ensures)
