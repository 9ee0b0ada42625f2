use Rattle.std.proofs.Common.{rules, ◌≡◌, ◌∙◌, ap, sym, List, []}
use Rattle.std.specs.Option.{option_copied}
use Rattle.std.proofs.lemmas.Result.{err_from_is_err_and}
use Rattle.seq_model.specs.declared.call.Reply.{Reply}
use Rattle.seq_model.specs.Programs.{after}
use Rattle.client_sessions.specs.declared.entry.Entry.{Entry}
use Rattle.client_sessions.specs.Sessions as programs
use Rattle.client_sessions.specs.Serving.{waiter}
use Rattle.client_sessions.proofs.WalkLemmas.{stops_along, replied}
use Rattle.client_sessions.proofs.walk.Walk.change_waiter.Goals as goal

pub returns-in_err-found : goal.returns-in_err-found
returns-in_err-found c = λ next. let p = err_from_is_err_and c.from_residual.result c.from_residual.ensures.1 in
    rw (p.1, p.2) (c.in_err-found.ensures.comes (λ o. programs.put_customer c.args.customer (waiter c.args.ticket c.args.booking o) next))

pub returns-then-passes : goal.returns-then-passes
returns-then-passes c =
    let p = c.passes.ensures.passed (search rules) in
    λ next. c.in_ok-found.ensures.comes (λ o. programs.put_customer c.args.customer (waiter c.args.ticket c.args.booking o) next)
    ∙ replied _ (λ _. next) _ _ p.0 p.1

pub returns : goal.returns
returns c =
    let none : c.get_customer.new.self ≡ [] = c.passes.ensures.due (search rules) in
    λ next. stops_along _ _ _ (c.in_ok-found.ensures.comes
    (λ o. programs.put_customer c.args.customer (waiter c.args.ticket c.args.booking o) next)
    ∙ ap (λ (l : List (Reply Entry)). after (programs.put_customer c.args.customer
    (waiter c.args.ticket c.args.booking (option_copied c.in_ok-found.found)) next) l) none
    ∙ ap (λ w. programs.put_customer c.args.customer w next) (sym (c.in_ok-shared.ensures ∙ c.in_ok-who.ensures)))
    (c.put_customer.ensures next)
