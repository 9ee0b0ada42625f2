-- Tallies: how much there is of each number, at most what a word holds; and the tests of balance that look numbers up in them.
use Rattle.std.specs.Prelude.{ℕ, ◌+◌, length, is_some, Bool, ◌&&◌, ◌==◌, nat_lt, nat_le, fold, min, unwrap_or, if◌then◌else◌}
use Rattle.std.specs.List.{list_all}
use Rattle.std.specs.Ordering.{nat_cmp}
use Rattle.std.specs.FinMap as map
use Rattle.vac_model.specs.declared.each.Each.{Each}
use Rattle.vac_model.specs.declared.item.Kind.{Kind}
use Rattle.vac_model.specs.declared.item.Kind.TheVariants.{Car, Flight, Room}
use Rattle.vac_model.specs.declared.item.Item.{Item}
use Rattle.vac_model.specs.declared.item.Booking.{Booking}
use Rattle.vac_model.specs.declared.item.Wait.{Wait}
use Rattle.vac_model.specs.declared.item.Customer.{Customer}
use Rattle.vac_model.specs.declared.item.Ticket.{Ticket}
use Rattle.vac_model.specs.declared.limits.TheConstants.{AMOUNT_LIMIT, PLACE_LIMIT, TICKET_LIMIT}
use Rattle.vac_model.specs.Holdings.{Holdings, same_kind, of_kind, item, ticket, queue}
use Rattle.vac_model.specs.Actions.{places}
use Rattle.vac_model.specs.Balanced.{tickets_for}
use Rattle.vac_model.specs.Tests.{is_item_sound, are_units}

-- ---- tallies
abbrev pub Tally : Type 0
Tally = map.FinMap nat_cmp ℕ

-- the most that is counted
abbrev pub MOST : ℕ
MOST = 18446744073709551615

-- how much there is of a number
abbrev pub counted : Tally → ℕ → ℕ
counted t id = unwrap_or (map.get t id) 0

-- with so much more of it
abbrev pub with_more : ℕ → ℕ → Tally → Tally
with_more id n t = map.insert t id (min (counted t id + n) MOST)

-- with the units of a booking of this kind
abbrev pub with_units : Kind → Tally → Booking → Tally
with_units k t b = if same_kind b.kind k then with_more b.id b.units t else t

-- with one for a booking of this kind, for a wait of it, for the ticket of a wait, for a ticket
abbrev pub with_booking : Kind → Tally → Booking → Tally
with_booking k t b = if same_kind b.kind k then with_more b.id 1 t else t

abbrev pub with_wait : Kind → Tally → Wait → Tally
with_wait k t w = if same_kind w.kind k then with_more w.id 1 t else t

abbrev pub with_awaited : Tally → Wait → Tally
with_awaited t w = with_more w.ticket 1 t

abbrev pub with_ticket : Tally → ℕ → Tally
with_ticket t n = with_more n 1 t

-- ---- of the tables
-- the units that are booked of each item of a kind
abbrev pub units_tally : Kind → Holdings → Tally
units_tally k s = fold (λ t e. fold (with_units k) t e.1.bookings) map.empty (map.entries s.customers)

-- how often the customer holds or awaits each item of a kind
abbrev pub had_tally : Kind → Customer → Tally
had_tally k who = fold (with_wait k) (fold (with_booking k) map.empty who.bookings) who.waits

-- how many waits have each ticket
abbrev pub awaited_tally : Holdings → Tally
awaited_tally s = fold (λ t e. fold with_awaited t e.1.waits) map.empty (map.entries s.customers)

-- how often each ticket stands in the queue of a kind
abbrev pub queued_tally : Kind → Holdings → Tally
queued_tally k s = fold with_ticket map.empty (queue k s).tickets

abbrev pub had_tallies : Customer → Each Tally
had_tallies who = record { car = had_tally Car who; flight = had_tally Flight who; room = had_tally Room who }

abbrev pub queued_tallies : Holdings → Each Tally
queued_tallies s = record { car = queued_tally Car s; flight = queued_tally Flight s; room = queued_tally Room s }

-- ---- the tests
abbrev pub is_item_tallied : Tally → ℕ × Item → Bool
is_item_tallied t e = is_item_sound e.1 && (e.1.used == counted t e.0)

abbrev pub are_items_tallied : Kind → Holdings → Bool
are_items_tallied k s = list_all (is_item_tallied (units_tally k s)) (map.entries (of_kind k s.items))

abbrev pub is_booking_tallied : Holdings → Each Tally → Booking → Bool
is_booking_tallied s had b = nat_le (counted (of_kind b.kind had) b.id) 1 &&
    (are_units b.units && (nat_le b.price AMOUNT_LIMIT && is_some (item b.kind b.id s)))

abbrev pub is_wait_tallied : Holdings → Each Tally → ℕ → Wait → Bool
is_wait_tallied s had c w = nat_le (counted (of_kind w.kind had) w.id) 1 &&
    (are_units w.units && (tickets_for c w (ticket w.ticket s) == 1))

abbrev pub is_customer_tallied : Holdings → ℕ × Customer → Bool
is_customer_tallied s e =
    nat_le (places e.1) PLACE_LIMIT && (list_all (is_booking_tallied s (had_tallies e.1)) e.1.bookings
    && list_all (is_wait_tallied s (had_tallies e.1) e.0) e.1.waits)

abbrev pub are_customers_tallied : Holdings → Bool
are_customers_tallied s = list_all (is_customer_tallied s) (map.entries s.customers)

-- a ticket has a wait, and stands in its queue
abbrev pub is_ticket_tallied : Tally → Each Tally → ℕ × Ticket → Bool
is_ticket_tallied awaited queued e = nat_lt 0 (counted awaited e.0) && nat_lt 0 (counted (of_kind e.1.kind queued) e.0)

abbrev pub are_tickets_tallied : Holdings → Bool
are_tickets_tallied s = list_all (is_ticket_tallied (awaited_tally s) (queued_tallies s)) (map.entries s.tickets)

-- how often a ticket stands in the three queues
abbrev pub times_tallied : Each Tally → ℕ → ℕ
times_tallied queued t = min (min (counted queued.car t + counted queued.flight t) MOST + counted queued.room t) MOST

abbrev pub is_place_tallied : Each Tally → ℕ → ℕ → Bool
is_place_tallied queued next t = nat_le (times_tallied queued t) 1 && nat_lt t next

abbrev pub is_queue_tallied : Kind → Holdings → Bool
is_queue_tallied k s = nat_le ((queue k s).head + length (queue k s).tickets) s.next
    && list_all (is_place_tallied (queued_tallies s) s.next) (queue k s).tickets

abbrev pub are_queues_tallied : Holdings → Bool
are_queues_tallied s = is_queue_tallied Car s && (is_queue_tallied Flight s && is_queue_tallied Room s)

abbrev pub is_tallied : Holdings → Bool
is_tallied s =
    nat_le s.next TICKET_LIMIT && (are_items_tallied Car s && (are_items_tallied Flight s && (are_items_tallied Room s
    && (are_customers_tallied s && (are_tickets_tallied s && are_queues_tallied s)))))
