use Rattle.std.proofs.Common.{◌∙◌, ap}
use Rattle.std.proofs.lemmas.Result.{err_from_is_err_and}
use Rattle.seq_model.specs.Programs.{after}
use Rattle.client_sessions.specs.Sessions as programs
use Rattle.client_sessions.specs.Drafts.{drafted}
use Rattle.client_sessions.proofs.WalkLemmas.{stops_along, no_ticket, a_ticket, puts, enqueues, waits_on}
use Rattle.client_sessions.proofs.walk.Walk.line_up.Goals as goal

pub returns-in_err-ticket : goal.returns-in_err-ticket
returns-in_err-ticket c = λ next. let p = err_from_is_err_and c.from_residual.result c.from_residual.ensures.1 in
    rw (p.1, p.2) (c.in_err-ticket.ensures.comes
    (programs.line_up c.args.draft.now.number c.args.draft.now.units c.args.kind c.args.id (drafted c.args.draft.now) next))

pub returns-then-ticket-eq-TICKET_LIMIT : goal.returns-then-ticket-eq-TICKET_LIMIT
returns-then-ticket-eq-TICKET_LIMIT c =
    λ next. c.in_ok-ticket.ensures.comes
    (programs.line_up c.args.draft.now.number c.args.draft.now.units c.args.kind c.args.id (drafted c.args.draft.now) next)
    ∙ ap (λ p. after p c.read_next.new.self)
    (no_ticket c.args.draft.now.number c.args.draft.now.units c.args.kind c.args.id
    (drafted c.args.draft.now) next c.in_ok-ticket.ticket c.if-ticket-eq-TICKET_LIMIT.true)

pub returns-in_err-write_next : goal.returns-in_err-write_next
returns-in_err-write_next c =
    λ next. let p = err_from_is_err_and c.from_residual-in_err-write_next.result c.from_residual-in_err-write_next.ensures.1 in
    rw (p.1, p.2) (stops_along _ _ _
    (c.in_ok-ticket.ensures.comes (programs.line_up c.args.draft.now.number c.args.draft.now.units c.args.kind c.args.id
    (drafted c.args.draft.now) next)
    ∙ ap (λ p. after p c.read_next.new.self)
    (a_ticket c.args.draft.now.number c.args.draft.now.units c.args.kind c.args.id
    (drafted c.args.draft.now) next c.in_ok-ticket.ticket c.if-ticket-eq-TICKET_LIMIT.false))
    (c.in_err-write_next.ensures (puts c.args.draft.now.number c.args.draft.now.units c.args.kind c.args.id
    (drafted c.args.draft.now) next c.in_ok-ticket.ticket)))

pub returns-in_err-put_ticket : goal.returns-in_err-put_ticket
returns-in_err-put_ticket c =
    λ next. let p = err_from_is_err_and c.from_residual-in_err-put_ticket.result c.from_residual-in_err-put_ticket.ensures.1 in
    rw (p.1, p.2) (stops_along _ _ _
    (c.in_ok-ticket.ensures.comes (programs.line_up c.args.draft.now.number c.args.draft.now.units c.args.kind c.args.id
    (drafted c.args.draft.now) next)
    ∙ ap (λ p. after p c.read_next.new.self)
    (a_ticket c.args.draft.now.number c.args.draft.now.units c.args.kind c.args.id
    (drafted c.args.draft.now) next c.in_ok-ticket.ticket c.if-ticket-eq-TICKET_LIMIT.false)
    ∙ c.in_ok-write_next.ensures (puts c.args.draft.now.number c.args.draft.now.units c.args.kind c.args.id
    (drafted c.args.draft.now) next c.in_ok-ticket.ticket))
    (c.in_err-put_ticket.ensures (enqueues c.args.draft.now.number c.args.draft.now.units c.args.kind c.args.id
    (drafted c.args.draft.now) next c.in_ok-ticket.ticket)))

pub returns-in_err-enqueue : goal.returns-in_err-enqueue
returns-in_err-enqueue c =
    λ next. let p = err_from_is_err_and c.from_residual-in_err-enqueue.result c.from_residual-in_err-enqueue.ensures.1 in
    rw (p.1, p.2) (stops_along _ _ _
    (c.in_ok-ticket.ensures.comes (programs.line_up c.args.draft.now.number c.args.draft.now.units c.args.kind c.args.id
    (drafted c.args.draft.now) next)
    ∙ ap (λ p. after p c.read_next.new.self)
    (a_ticket c.args.draft.now.number c.args.draft.now.units c.args.kind c.args.id
    (drafted c.args.draft.now) next c.in_ok-ticket.ticket c.if-ticket-eq-TICKET_LIMIT.false)
    ∙ c.in_ok-write_next.ensures (puts c.args.draft.now.number c.args.draft.now.units c.args.kind c.args.id
    (drafted c.args.draft.now) next c.in_ok-ticket.ticket)
    ∙ c.in_ok-put_ticket.ensures (enqueues c.args.draft.now.number c.args.draft.now.units c.args.kind c.args.id
    (drafted c.args.draft.now) next c.in_ok-ticket.ticket))
    (c.in_err-enqueue.ensures (waits_on c.args.draft.now.number c.args.draft.now.units c.args.kind c.args.id
    (drafted c.args.draft.now) next c.in_ok-ticket.ticket)))

pub returns : goal.returns
returns c =
    λ next. c.in_ok-ticket.ensures.comes
    (programs.line_up c.args.draft.now.number c.args.draft.now.units c.args.kind c.args.id (drafted c.args.draft.now) next)
    ∙ ap (λ p. after p c.read_next.new.self)
    (a_ticket c.args.draft.now.number c.args.draft.now.units c.args.kind c.args.id
    (drafted c.args.draft.now) next c.in_ok-ticket.ticket c.if-ticket-eq-TICKET_LIMIT.false)
    ∙ c.in_ok-write_next.ensures (puts c.args.draft.now.number c.args.draft.now.units c.args.kind c.args.id
    (drafted c.args.draft.now) next c.in_ok-ticket.ticket)
    ∙ c.in_ok-put_ticket.ensures (enqueues c.args.draft.now.number c.args.draft.now.units c.args.kind c.args.id
    (drafted c.args.draft.now) next c.in_ok-ticket.ticket)
    ∙ c.in_ok-enqueue.ensures (waits_on c.args.draft.now.number c.args.draft.now.units c.args.kind c.args.id
    (drafted c.args.draft.now) next c.in_ok-ticket.ticket)
