use Rattle.std.proofs.Common.{Some, get_or, sym, ◌∙◌, ap}
use Rattle.client_sessions.proofs.TablesLemmas.{reads, reads_none, wants_memory}
use Rattle.client_sessions.proofs.state.tables_in.Goals as goal

pub returns-then-not-are_queues-clause-refused : goal.returns-then-not-are_queues-clause-refused
returns-then-not-are_queues-clause-refused c =
    reads_none _ _ c.in-len1.len_at_least c.in-len1.len_below c.in-len8.len_at_least c.in-len8.len_below
    c.cars-item.is c.flights-item.is c.rooms-item.is c.customers-item.is c.tickets-item.is c.for_cars-item.is c.for_flights-item.is
    c.for_rooms-item.is (sym c.are_queues.ensures ∙ c.if-not-are_queues.true)

pub returns-in_err-items-clause-refused : goal.returns-in_err-items-clause-refused
returns-in_err-items-clause-refused c =
    wants_memory _ _ (reads _ _ c.in-len1.len_at_least c.in-len1.len_below c.in-len8.len_at_least c.in-len8.len_below
    c.cars-item.is c.flights-item.is c.rooms-item.is c.customers-item.is c.tickets-item.is c.for_cars-item.is c.for_flights-item.is
    c.for_rooms-item.is (sym c.are_maps.ensures ∙ c.if-not-are_maps.false)
    (sym c.are_queues.ensures ∙ c.if-not-are_queues.false))
    c.from_residual.result c.from_residual.ensures.1

pub returns-in_err-waiting-clause-refused : goal.returns-in_err-waiting-clause-refused
returns-in_err-waiting-clause-refused c =
    wants_memory _ _ (reads _ _ c.in-len1.len_at_least c.in-len1.len_below c.in-len8.len_at_least c.in-len8.len_below
    c.cars-item.is c.flights-item.is c.rooms-item.is c.customers-item.is c.tickets-item.is c.for_cars-item.is c.for_flights-item.is
    c.for_rooms-item.is (sym c.are_maps.ensures ∙ c.if-not-are_maps.false)
    (sym c.are_queues.ensures ∙ c.if-not-are_queues.false))
    c.from_residual-in_err-waiting.result c.from_residual-in_err-waiting.ensures.1

pub returns-in_err-customers-clause-refused : goal.returns-in_err-customers-clause-refused
returns-in_err-customers-clause-refused c =
    wants_memory _ _ (reads _ _ c.in-len1.len_at_least c.in-len1.len_below c.in-len8.len_at_least c.in-len8.len_below
    c.cars-item.is c.flights-item.is c.rooms-item.is c.customers-item.is c.tickets-item.is c.for_cars-item.is c.for_flights-item.is
    c.for_rooms-item.is (sym c.are_maps.ensures ∙ c.if-not-are_maps.false)
    (sym c.are_queues.ensures ∙ c.if-not-are_queues.false))
    c.from_residual-in_err-customers.result c.from_residual-in_err-customers.ensures.1

pub returns-in_err-tickets-clause-refused : goal.returns-in_err-tickets-clause-refused
returns-in_err-tickets-clause-refused c =
    wants_memory _ _ (reads _ _ c.in-len1.len_at_least c.in-len1.len_below c.in-len8.len_at_least c.in-len8.len_below
    c.cars-item.is c.flights-item.is c.rooms-item.is c.customers-item.is c.tickets-item.is c.for_cars-item.is c.for_flights-item.is
    c.for_rooms-item.is (sym c.are_maps.ensures ∙ c.if-not-are_maps.false)
    (sym c.are_queues.ensures ∙ c.if-not-are_queues.false))
    c.from_residual-in_err-tickets.result c.from_residual-in_err-tickets.ensures.1

pub returns-clause-ok : goal.returns-clause-ok
returns-clause-ok c =
    reads _ _ c.in-len1.len_at_least c.in-len1.len_below c.in-len8.len_at_least c.in-len8.len_below
    c.cars-item.is c.flights-item.is c.rooms-item.is c.customers-item.is c.tickets-item.is c.for_cars-item.is c.for_flights-item.is
    c.for_rooms-item.is (sym c.are_maps.ensures ∙ c.if-not-are_maps.false) (sym c.are_queues.ensures ∙ c.if-not-are_queues.false)
    ∙ (λ i. Some (record {
      items = sym c.in_ok-items.ensures i;
      customers = sym c.in_ok-customers.ensures i;
      tickets = sym c.in_ok-tickets.ensures i;
      waiting = sym c.in_ok-waiting.ensures i;
      next = get_or c.args.words.now 0 0;
    })) ∙ ap Some (sym c.of_maps.ensures)
