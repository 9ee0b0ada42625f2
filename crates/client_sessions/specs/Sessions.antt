-- The session of an action, as a program of calls.
use Rattle.std.specs.Prelude.{ℕ, zero, suc, ◌+◌, List, [], ◌∷◌, ◌++◌, Option, Some, None, option_map, unwrap_or, is_none, Bool, true, false}
use Rattle.std.specs.Prelude.{◌&&◌, ◌||◌, ◌==◌, nat_lt, nat_le, if◌then◌else◌}
use Rattle.std.specs.List.{list_any}
use Rattle.seq_model.specs.declared.call.Call.{Call}
use Rattle.seq_model.specs.declared.call.Op.{Op}
use Rattle.seq_model.specs.declared.call.Op.TheVariants.{Read, Write, Get, Put, Remove, Enqueue, Dequeue, Peek}
use Rattle.seq_model.specs.declared.call.Reply.{Reply}
use Rattle.seq_model.specs.declared.call.Reply.TheVariants.{Nothing, Value, Found, Number}
use Rattle.vac_model.specs.declared.item.Kind.{Kind}
use Rattle.vac_model.specs.declared.item.Kind.TheVariants.{Car, Flight, Room}
use Rattle.vac_model.specs.declared.item.Item.{Item}
use Rattle.vac_model.specs.declared.item.Booking.{Booking}
use Rattle.vac_model.specs.declared.item.Wait.{Wait}
use Rattle.vac_model.specs.declared.item.Customer.{Customer}
use Rattle.vac_model.specs.declared.item.Ticket.{Ticket}
use Rattle.vac_model.specs.declared.action.Ask.{Ask}
use Rattle.vac_model.specs.declared.action.Change.{Change}
use Rattle.vac_model.specs.declared.action.ChangeReply.{ChangeReply}
use Rattle.vac_model.specs.declared.action.KindReply.{KindReply}
use Rattle.vac_model.specs.declared.action.KindReply.TheVariants.{Already, Full, Booked, NoFree, Waits}
use Rattle.vac_model.specs.declared.action.KindReply.TheVariants as part
use Rattle.vac_model.specs.declared.action.Action.{Action}
use Rattle.vac_model.specs.declared.action.Action.TheVariants.{Reserve, Delete, Update, QueryItem, QueryBill}
use Rattle.vac_model.specs.declared.action.ActionReply.{ActionReply}
use Rattle.vac_model.specs.declared.action.ActionReply.TheVariants.{Reserved, Deleted, Updated, Absent}
use Rattle.vac_model.specs.declared.limits.TheConstants.{SERVE_LIMIT, TICKET_LIMIT}
use Rattle.vac_model.specs.Holdings.{same_kind, newcomer, everywhere}
use Rattle.vac_model.specs.Actions.{dearer, has, is_full, take_units, give_units, without_wait, bill, changed, kind_of, id_of}
use Rattle.vac_model.specs.Actions.{item_reply, bill_reply}
use Rattle.vac_model.specs.Tests.{is_item_sound}
pub use Rattle.client_sessions.specs.Within.{is_booking_within, is_customer_within}
use Rattle.client_sessions.specs.declared.entry.Entry.{Entry}
use Rattle.client_sessions.specs.declared.entry.Entry.TheVariants.{Item as Stock, Customer as Client, Ticket as Slip}
use Rattle.seq_model.specs.Programs.{Program, Asks, Answers, GivesUp}

-- a program of calls on the tables that answers as an action does, or what is left of one
abbrev pub SessionProgram : Type 0
SessionProgram = Program Entry ActionReply

-- ---- the calls

abbrev pub map_of : Kind → ℕ
map_of Car = 0
map_of Flight = 1
map_of Room = 2

abbrev pub queue_of : Kind → ℕ
queue_of Car = 5
queue_of Flight = 6
queue_of Room = 7

abbrev pub on : ℕ → Op Entry → Call Entry
on target op = record { target = target; op = op }

-- each continues with what was replied, and aborts where no balanced tables hold it

abbrev pub item_in : Reply Entry → (Option Item → SessionProgram) → SessionProgram
item_in Nothing next = next None
item_in (Value (Stock i)) next = if is_item_sound i then next (Some i) else GivesUp
item_in _ next = GivesUp

abbrev pub customer_in : Reply Entry → (Option Customer → SessionProgram) → SessionProgram
customer_in Nothing next = next None
customer_in (Value (Client who)) next = if is_customer_within who then next (Some who) else GivesUp
customer_in _ next = GivesUp

abbrev pub ticket_in : Reply Entry → (Option Ticket → SessionProgram) → SessionProgram
ticket_in Nothing next = next None
ticket_in (Value (Slip x)) next = next (Some x)
ticket_in _ next = GivesUp

abbrev pub first_in : Reply Entry → (Option ℕ → SessionProgram) → SessionProgram
first_in Nothing next = next None
first_in (Found t) next = next (Some t)
first_in _ next = GivesUp

abbrev pub next_in : Reply Entry → (ℕ → SessionProgram) → SessionProgram
next_in (Number n) next = if nat_le n TICKET_LIMIT then next n else GivesUp
next_in _ next = GivesUp

abbrev pub get_item : Kind → ℕ → (Option Item → SessionProgram) → SessionProgram
get_item k id next = Asks (on (map_of k) (Get id)) (λ r. item_in r next)

abbrev pub put_item : Kind → ℕ → Item → SessionProgram → SessionProgram
put_item k id i next = Asks (on (map_of k) (Put id (Stock i))) (λ _. next)

abbrev pub remove_item : Kind → ℕ → SessionProgram → SessionProgram
remove_item k id next = Asks (on (map_of k) (Remove id)) (λ _. next)

abbrev pub get_customer : ℕ → (Option Customer → SessionProgram) → SessionProgram
get_customer c next = Asks (on 3 (Get c)) (λ r. customer_in r next)

abbrev pub put_customer : ℕ → Customer → SessionProgram → SessionProgram
put_customer c who next = Asks (on 3 (Put c (Client who))) (λ _. next)

abbrev pub remove_customer : ℕ → SessionProgram → SessionProgram
remove_customer c next = Asks (on 3 (Remove c)) (λ _. next)

abbrev pub get_ticket : ℕ → (Option Ticket → SessionProgram) → SessionProgram
get_ticket t next = Asks (on 4 (Get t)) (λ r. ticket_in r next)

abbrev pub put_ticket : ℕ → Ticket → SessionProgram → SessionProgram
put_ticket t x next = Asks (on 4 (Put t (Slip x))) (λ _. next)

abbrev pub remove_ticket : ℕ → SessionProgram → SessionProgram
remove_ticket t next = Asks (on 4 (Remove t)) (λ _. next)

abbrev pub read_next : (ℕ → SessionProgram) → SessionProgram
read_next next = Asks (on 0 Read) (λ r. next_in r next)

abbrev pub write_next : ℕ → SessionProgram → SessionProgram
write_next n next = Asks (on 0 (Write n)) (λ _. next)

abbrev pub enqueue : Kind → ℕ → SessionProgram → SessionProgram
enqueue k t next = Asks (on (queue_of k) (Enqueue t)) (λ _. next)

abbrev pub dequeue : Kind → SessionProgram → SessionProgram
dequeue k next = Asks (on (queue_of k) Dequeue) (λ _. next)

abbrev pub peek : Kind → (Option ℕ → SessionProgram) → SessionProgram
peek k next = Asks (on (queue_of k) Peek) (λ r. first_in r next)

-- ---- the queries

abbrev pub query_item : Kind → ℕ → SessionProgram
query_item k id = get_item k id (λ o. Answers (item_reply o))

abbrev pub query_bill : ℕ → SessionProgram
query_bill c = get_customer c (λ o. Answers (bill_reply o))

-- ---- reserve

-- the best candidate of a kind so far, with what an ask found
abbrev pub better : Kind → Ask → Option Item → Option (ℕ × Item) → Option (ℕ × Item)
better k ask o best = if same_kind ask.kind k then dearer best (option_map (λ i. (ask.id, i)) o) else best

abbrev pub gather : List Ask → Option (ℕ × Item) → Option (ℕ × Item) → Option (ℕ × Item)
    → (Option (ℕ × Item) → Option (ℕ × Item) → Option (ℕ × Item) → SessionProgram) → SessionProgram
gather [] car flight room next = next car flight room
gather (ask ∷ asks) car flight room next =
    get_item ask.kind ask.id (λ o. gather asks (better Car ask o car) (better Flight ask o flight) (better Room ask o room) next)

abbrev pub with_booking : ℕ → Kind → ℕ → ℕ → Customer → Customer
with_booking units k id price who =
    record who { bookings = who.bookings ++ record { kind = k; id = id; units = units; price = price } ∷ [] }

abbrev pub with_wait : ℕ → Kind → ℕ → ℕ → Customer → Customer
with_wait units k id t who = record who { waits = who.waits ++ record { kind = k; id = id; units = units; ticket = t } ∷ [] }

-- too few units are free: the next ticket is given out, if there is one
abbrev pub line_up : ℕ → ℕ → Kind → ℕ → Customer → (KindReply → Customer → SessionProgram) → ℕ → SessionProgram
line_up c units k id who next t =
    if t == TICKET_LIMIT then next (NoFree id) who
    else write_next (t + 1) (put_ticket t (record { customer = c; kind = k; id = id; units = units })
    (enqueue k t (next (Waits id t) (with_wait units k id t who))))

-- the candidate of a kind is decided for a customer, who is not put yet
abbrev pub decide : ℕ → ℕ → Kind → Option (ℕ × Item) → Customer → (KindReply → Customer → SessionProgram) → SessionProgram
decide c units k None who next = next part.Nothing who
decide c units k (Some x) who next =
    if has who k x.0 then next (Already x.0) who
    else if is_full who then next (Full x.0) who
    else if nat_le units x.1.free then put_item k x.0 (take_units units x.1)
    (next (Booked x.0 units x.1.price) (with_booking units k x.0 x.1.price who))
    else read_next (line_up c units k x.0 who next)

abbrev pub is_change : KindReply → Bool
is_change (Booked id units price) = true
is_change (Waits id t) = true
is_change _ = false

-- the customer is put where it is new or changed
abbrev pub put_changed : ℕ → Option Customer → Bool → Customer → SessionProgram → SessionProgram
put_changed c None changed who next = put_customer c who next
put_changed c (Some old) changed who next = if changed then put_customer c who next else next

abbrev pub decide_all : ℕ → ℕ → Option (ℕ × Item) → Option (ℕ × Item) → Option (ℕ × Item) → Option Customer → SessionProgram
decide_all c units car flight room o =
    decide c units Car car (unwrap_or o newcomer) (λ first one.
    decide c units Flight flight one (λ second two.
    decide c units Room room two (λ third three.
    put_changed c o (is_change first || (is_change second || is_change third)) three
    (Answers (Reserved (record { car = first; flight = second; room = third }))))))

abbrev pub reserve_among : ℕ → ℕ → Option (ℕ × Item) → Option (ℕ × Item) → Option (ℕ × Item) → SessionProgram
reserve_among c units car flight room =
    if is_none car && (is_none flight && is_none room) then Answers (Reserved (everywhere part.Nothing))
    else get_customer c (decide_all c units car flight room)

abbrev pub reserve : ℕ → ℕ → List Ask → SessionProgram
reserve c units asks = gather asks None None None (reserve_among c units)

-- ---- delete

abbrev pub give_back : Booking → Option Item → SessionProgram → SessionProgram
give_back b None next = GivesUp
give_back b (Some i) next = if nat_lt i.used b.units then GivesUp else put_item b.kind b.id (give_units b.units i) next

abbrev pub give_all_back : List Booking → SessionProgram → SessionProgram
give_all_back [] next = next
give_all_back (b ∷ bs) next = get_item b.kind b.id (λ o. give_back b o (give_all_back bs next))

abbrev pub forget_all : List Wait → SessionProgram → SessionProgram
forget_all [] next = next
forget_all (w ∷ ws) next = remove_ticket w.ticket (forget_all ws next)

-- a ticket was taken off: its wait ends
abbrev pub end_wait : Kind → ℕ → SessionProgram → SessionProgram
end_wait k t next = dequeue k (remove_ticket t next)

-- the customer of a ticket, without the wait, and changed by this
abbrev pub change_waiter : ℕ → ℕ → (Customer → Customer) → SessionProgram → SessionProgram
change_waiter c t change next = get_customer c (λ o. put_customer c (change (without_wait t (unwrap_or o newcomer))) next)

-- later continues with the ticket after it, given how many were booked; next continues where serving ends
abbrev pub serve_item : Kind → ℕ → Ticket → Option Item → (ℕ → SessionProgram) → SessionProgram → SessionProgram
serve_item k t x None later next = end_wait k t (change_waiter x.customer t (λ who. who) (later 0))
serve_item k t x (Some i) later next =
    if nat_le x.units i.free then end_wait k t
    (put_item x.kind x.id (take_units x.units i) (change_waiter x.customer t (with_booking x.units x.kind x.id i.price) (later 1)))
    else next

abbrev pub serve_ticket : Kind → ℕ → Option Ticket → (ℕ → SessionProgram) → SessionProgram → SessionProgram
serve_ticket k t None later next = dequeue k (later 0)
serve_ticket k t (Some x) later next = get_item x.kind x.id (λ o. serve_item k t x o later next)

abbrev pub serve_first : Kind → Option ℕ → (ℕ → SessionProgram) → SessionProgram → SessionProgram
serve_first k None later next = next
serve_first k (Some t) later next = get_ticket t (λ o. serve_ticket k t o later next)

abbrev pub serve : ℕ → Kind → (ℕ → SessionProgram) → SessionProgram
serve zero k next = next 0
serve (suc n) k next = peek k (λ o. serve_first k o (λ one. serve n k (λ more. next (one + more))) (next 0))

abbrev pub serve_freed : List Booking → Kind → (ℕ → SessionProgram) → SessionProgram
serve_freed bookings k next = if list_any (λ b. same_kind b.kind k) bookings then serve SERVE_LIMIT k next else next 0

abbrev pub serve_all : List Booking → (ℕ → SessionProgram) → SessionProgram
serve_all bookings next =
    serve_freed bookings Car (λ car. serve_freed bookings Flight (λ flight. serve_freed bookings Room (λ room. next (car + flight + room))))

abbrev pub delete_found : ℕ → Option Customer → SessionProgram
delete_found c None = Answers Absent
delete_found c (Some who) =
    give_all_back who.bookings (forget_all who.waits (remove_customer c
    (serve_all who.bookings (λ served. Answers (Deleted (bill who.bookings) served)))))

abbrev pub delete : ℕ → SessionProgram
delete c = get_customer c (delete_found c)

-- ---- update

abbrev pub is_same_item : Item → Item → Bool
is_same_item i j = (i.total == j.total) && ((i.used == j.used) && ((i.free == j.free) && (i.price == j.price)))

-- the call that makes the one entry the other, where they differ
abbrev pub set_item : Kind → ℕ → Option Item → Option Item → SessionProgram → SessionProgram
set_item k id None None next = next
set_item k id (Some i) None next = remove_item k id next
set_item k id None (Some j) next = put_item k id j next
set_item k id (Some i) (Some j) next = if is_same_item i j then next else put_item k id j next

abbrev pub change_one : Change → (ChangeReply → SessionProgram) → SessionProgram
change_one c next = get_item (kind_of c) (id_of c) (λ o. set_item (kind_of c) (id_of c) o (changed c o).1 (next (changed c o).0))

abbrev pub change_each : List Change → (List ChangeReply → SessionProgram) → SessionProgram
change_each [] next = next []
change_each (c ∷ cs) next = change_one c (λ made. change_each cs (λ more. next (made ∷ more)))

abbrev pub update : List Change → SessionProgram
update changes = change_each changes (λ made. Answers (Updated made))

-- ---- the session

abbrev pub session : Action → SessionProgram
session (Reserve c units asks) = reserve c units asks
session (Delete c) = delete c
session (Update changes) = update changes
session (QueryItem k id) = query_item k id
session (QueryBill c) = query_bill c
