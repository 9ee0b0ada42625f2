use Rattle.std.proofs.Common.{◌∙◌, ◌+◌}
use Rattle.std.proofs.lemmas.Result.{err_from_is_err_and}
use Rattle.client_sessions.specs.Sessions as programs
use Rattle.client_sessions.proofs.WalkLemmas.{stops_along}
use Rattle.vac_model.specs.declared.item.Kind.TheVariants.{Flight, Room}
use Rattle.client_sessions.proofs.walk.Walk.serve_all.Goals as goal

pub returns-in_err-car : goal.returns-in_err-car
returns-in_err-car c = λ next. let p = err_from_is_err_and c.from_residual.result c.from_residual.ensures.1 in
    rw (p.1, p.2) (c.in_err-car.ensures.comes
    (λ car. programs.serve_freed c.args.who.now.bookings Flight
    (λ flight. programs.serve_freed c.args.who.now.bookings Room (λ room. next (car + flight + room)))))

pub returns-in_err-flight : goal.returns-in_err-flight
returns-in_err-flight c =
    λ next. let p = err_from_is_err_and c.from_residual-in_err-flight.result c.from_residual-in_err-flight.ensures.1 in
    rw (p.1, p.2) (stops_along _ _ _
    (c.in_ok-car.ensures.comes (λ car. programs.serve_freed c.args.who.now.bookings Flight
    (λ flight. programs.serve_freed c.args.who.now.bookings Room (λ room. next (car + flight + room)))))
    (c.in_err-flight.ensures.comes
    (λ flight. programs.serve_freed c.args.who.now.bookings Room (λ room. next (c.in_ok-car.car + flight + room)))))

pub returns-in_err-room : goal.returns-in_err-room
returns-in_err-room c =
    λ next. let p = err_from_is_err_and c.from_residual-in_err-room.result c.from_residual-in_err-room.ensures.1 in
    rw (p.1, p.2) (stops_along _ _ _
    (c.in_ok-car.ensures.comes (λ car. programs.serve_freed c.args.who.now.bookings Flight
    (λ flight. programs.serve_freed c.args.who.now.bookings Room (λ room. next (car + flight + room))))
    ∙ c.in_ok-flight.ensures.comes
    (λ flight. programs.serve_freed c.args.who.now.bookings Room (λ room. next (c.in_ok-car.car + flight + room))))
    (c.in_err-room.ensures.comes (λ room. next (c.in_ok-car.car + c.in_ok-flight.flight + room))))

pub returns : goal.returns
returns c =
    λ next. c.in_ok-car.ensures.comes
    (λ car. programs.serve_freed c.args.who.now.bookings Flight
    (λ flight. programs.serve_freed c.args.who.now.bookings Room (λ room. next (car + flight + room))))
    ∙ c.in_ok-flight.ensures.comes
    (λ flight. programs.serve_freed c.args.who.now.bookings Room (λ room. next (c.in_ok-car.car + flight + room)))
    ∙ c.in_ok-room.ensures.comes (λ room. next (c.in_ok-car.car + c.in_ok-flight.flight + room))
