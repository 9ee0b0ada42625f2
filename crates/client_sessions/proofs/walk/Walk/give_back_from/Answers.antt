use Rattle.std.proofs.Common.{◌∙◌, ap, sym}
use Rattle.std.proofs.lemmas.Result.{err_from_is_err_and}
use Rattle.seq_model.specs.Programs.{after}
use Rattle.client_sessions.specs.Sessions as programs
use Rattle.client_sessions.proofs.WalkLemmas.{along, stops_along}
use Rattle.client_sessions.proofs.GivenBackLemmas.{back_joined}
use Rattle.client_sessions.proofs.walk.Walk.give_back_from.Goals as goal

pub returns-in_err-give_list_back : goal.returns-in_err-give_list_back
returns-in_err-give_list_back c =
    λ next. let p = err_from_is_err_and c.from_residual.result c.from_residual.ensures.1 in
    rw (p.1, p.2) (stops_along _ _ _
    (ap (λ bookings. after (programs.give_all_back bookings next) c.args.self.now) (sym c.bookings_from.ensures)
    ∙ ap (λ q. after q c.args.self.now) (back_joined c.bookings_from.result.0.now c.bookings_from.result.1.now next))
    (c.in_err-give_list_back.ensures (programs.give_all_back c.bookings_from.result.1.now next)))

pub returns : goal.returns
returns c =
    λ next. along _ _ _ _
    (ap (λ bookings. after (programs.give_all_back bookings next) c.args.self.now) (sym c.bookings_from.ensures)
    ∙ ap (λ q. after q c.args.self.now) (back_joined c.bookings_from.result.0.now c.bookings_from.result.1.now next)
    ∙ c.in_ok-give_list_back.ensures (programs.give_all_back c.bookings_from.result.1.now next))
    (c.give_list_back-2.ensures next)
