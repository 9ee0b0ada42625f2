use Rattle.std.proofs.Common.{◌∙◌, ap}
use Rattle.std.proofs.lemmas.Result.{err_from_is_err_and}
use Rattle.seq_model.specs.Programs.{after, asked}
use Rattle.client_sessions.specs.Sessions as programs
use Rattle.client_sessions.proofs.WalkLemmas.{along, back_refused, back_given}
use Rattle.client_sessions.proofs.walk.Walk.give_back.Goals as goal

pub returns-in_err-item : goal.returns-in_err-item
returns-in_err-item c = λ next. let p = err_from_is_err_and c.from_residual.result c.from_residual.ensures.1 in
    rw (p.1, p.2) (c.in_err-item.ensures.comes (λ o. programs.give_back c.args.booking o next))

pub returns-in-None : goal.returns-in-None
returns-in-None c =
    λ next. ap asked (c.in_ok-item.ensures.comes (λ o. programs.give_back c.args.booking o next)
    ∙ ap (λ o. after (programs.give_back c.args.booking o next) c.get_item.new.self) c.in-None.is)

pub returns-then-item-booking : goal.returns-then-item-booking
returns-then-item-booking c =
    λ next. ap asked (c.in_ok-item.ensures.comes (λ o. programs.give_back c.args.booking o next)
    ∙ ap (λ o. after (programs.give_back c.args.booking o next) c.get_item.new.self) c.in-Some.is
    ∙ ap (λ p. after p c.get_item.new.self) (back_refused c.args.booking c.in-Some.item next c.if-item-booking.true))

pub returns : goal.returns
returns c =
    λ next. along _ _ _ _ (c.in_ok-item.ensures.comes (λ o. programs.give_back c.args.booking o next)
    ∙ ap (λ o. after (programs.give_back c.args.booking o next) c.get_item.new.self) c.in-Some.is
    ∙ ap (λ p. after p c.get_item.new.self) (back_given c.args.booking c.in-Some.item next c.if-item-booking.false))
    (c.put_item.ensures next)
