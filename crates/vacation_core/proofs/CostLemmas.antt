-- No session asks calls of more weight than a set has locations.
-- A program takes what its call weighs and what is left of it takes after any reply. So a reservation takes one look-up for each ask, one
-- for the customer, at most five for each kind, and one to put the customer; an update two for each change. A deletion takes two for each
-- booking and one for each wait, which a customer has 1,000 of at most, since the program aborts where there are more; and at most ten for
-- each of the thirty tickets that it may serve.
use Rattle.std.proofs.Common.{◌≡◌, ℕ, zero, suc, ◌+◌, ◌*◌, ◌<◌, ◌≤◌, Bool, true, false, ◌&&◌, ◌||◌, List, [], ◌∷◌}
use Rattle.std.proofs.Common.{length, Option, Some, None, refl, sym, ap, subst, arith, true≢false}
use Rattle.std.specs.Prelude.{nat_le, nat_lt, if◌then◌else◌, ◌==◌, unwrap_or, is_none}
use Rattle.std.specs.List.{list_all, list_any}
use Rattle.std.proofs.lemmas.Bool.Decides.{nat_tests}
use Rattle.seq_model.specs.declared.call.Call.{Call}
use Rattle.seq_model.specs.declared.call.Op.{Op}
use Rattle.seq_model.specs.declared.call.Op.TheVariants.{Read, Write, Get, Put, Remove, Enqueue, Dequeue, Peek}
use Rattle.seq_model.specs.declared.call.Reply.{Reply}
use Rattle.seq_model.specs.declared.call.Reply.TheVariants as reply
use Rattle.actor_laws.specs.Alone.{IsSmall, weight, weights}
use Rattle.seq_model.specs.Programs.{Asks, Answers, GivesUp, Follows}
use Rattle.seq_model.proofs.LogicLemmas.{nat_le-true}
use Rattle.vac_model.specs.declared.action.Action.{Action}
use Rattle.vac_model.specs.declared.action.Action.TheVariants.{Reserve, Delete, Update, QueryItem, QueryBill}
use Rattle.vac_model.specs.declared.action.ActionReply.TheVariants.{Deleted, Reserved, Updated}
use Rattle.vac_model.specs.declared.action.Ask.{Ask}
use Rattle.vac_model.specs.declared.action.Change.{Change}
use Rattle.vac_model.specs.declared.action.ChangeReply.{ChangeReply}
use Rattle.vac_model.specs.declared.action.KindReply.{KindReply}
use Rattle.vac_model.specs.declared.action.KindReply.TheVariants as part
use Rattle.vac_model.specs.declared.item.Booking.{Booking}
use Rattle.vac_model.specs.declared.item.Customer.{Customer}
use Rattle.vac_model.specs.declared.item.Item.{Item}
use Rattle.vac_model.specs.declared.item.Kind.{Kind}
use Rattle.vac_model.specs.declared.item.Kind.TheVariants.{Car, Flight, Room}
use Rattle.vac_model.specs.declared.item.Ticket.{Ticket}
use Rattle.vac_model.specs.declared.item.Wait.{Wait}
use Rattle.vac_model.specs.declared.limits.TheConstants.{PLACE_LIMIT, TICKET_LIMIT}
use Rattle.vac_model.specs.Actions.{IsAllowed, bill, changed, give_units, has, id_of, is_full, kind_of, places, take_units, without_wait}
use Rattle.vac_model.specs.Holdings.{newcomer, same_kind}
use Rattle.vac_model.specs.Tests.{is_item_sound}
use Rattle.client_sessions.specs.declared.entry.Entry.{Entry}
use Rattle.client_sessions.specs.declared.entry.Entry.TheVariants.{Item as Stock, Customer as Client, Ticket as Slip}
use Rattle.client_sessions.specs.Sessions as programs
use Rattle.client_sessions.specs.Sessions.{SessionProgram, is_booking_within, is_customer_within, map_of, queue_of, session}
use Rattle.vacation_core.specs.Costs.{Fits, IsOn, Takes}

-- ---- what is left takes no more
takes_more : (p : SessionProgram) (n k : ℕ) → n ≤ k → Takes p n → Takes p k
takes_more (Asks call next) n k le h = (h.0, (let few = h.1 in omega (arith, few, le)), h.2, h.3)
takes_more (Answers a) n k le h = tt
takes_more GivesUp n k le h = tt

takes_if : (b : Bool) (p q : SessionProgram) (n : ℕ) → (b ≡ true → Takes p n) → (b ≡ false → Takes q n) → Takes (if b then p else q) n
takes_if true p q n h g = h refl
takes_if false p q n h g = g refl

-- ---- the calls
map_on : (k : Kind) → map_of k < 5
map_on Car = omega arith
map_on Flight = omega arith
map_on Room = omega arith

queue_on : (k : Kind) → (5 ≤ queue_of k) × (queue_of k < 8)
queue_on Car = (omega arith, omega arith)
queue_on Flight = (omega arith, omega arith)
queue_on Room = (omega arith, omega arith)

item_in_takes : (next : Option Item → SessionProgram) (n : ℕ) → ((o : Option Item) → Takes (next o) n) → (r : Reply Entry)
    → Takes (programs.item_in r next) n
item_in_takes next n h reply.Nothing = h None
item_in_takes next n h (reply.Value (Stock i)) = takes_if (is_item_sound i) (next (Some i)) GivesUp n (λ _. h (Some i)) (λ _. tt)
item_in_takes next n h (reply.Value (Client who)) = tt
item_in_takes next n h (reply.Value (Slip t)) = tt
item_in_takes next n h r = tt

-- a customer with which the program continues is within its limits
abbrev IsWithin : Option Customer → Type 0
IsWithin None = Unit {0}
IsWithin (Some who) = is_customer_within who ≡ true

customer_in_takes : (next : Option Customer → SessionProgram) (n : ℕ) → ((o : Option Customer) → IsWithin o → Takes (next o) n)
    → (r : Reply Entry) → Takes (programs.customer_in r next) n
customer_in_takes next n h reply.Nothing = h None tt
customer_in_takes next n h (reply.Value (Client who)) =
    takes_if (is_customer_within who) (next (Some who)) GivesUp n (λ is. h (Some who) is) (λ _. tt)
customer_in_takes next n h (reply.Value (Stock i)) = tt
customer_in_takes next n h (reply.Value (Slip t)) = tt
customer_in_takes next n h r = tt

ticket_in_takes : (next : Option Ticket → SessionProgram) (n : ℕ) → ((o : Option Ticket) → Takes (next o) n) → (r : Reply Entry)
    → Takes (programs.ticket_in r next) n
ticket_in_takes next n h reply.Nothing = h None
ticket_in_takes next n h (reply.Value (Slip t)) = h (Some t)
ticket_in_takes next n h (reply.Value (Client who)) = tt
ticket_in_takes next n h (reply.Value (Stock i)) = tt
ticket_in_takes next n h r = tt

first_in_takes : (next : Option ℕ → SessionProgram) (n : ℕ) → ((o : Option ℕ) → Takes (next o) n) → (r : Reply Entry)
    → Takes (programs.first_in r next) n
first_in_takes next n h reply.Nothing = h None
first_in_takes next n h (reply.Found t) = h (Some t)
first_in_takes next n h r = tt

next_in_takes : (next : ℕ → SessionProgram) (n : ℕ) → ((t : ℕ) → Takes (next t) n) → (r : Reply Entry) → Takes (programs.next_in r next) n
next_in_takes next n h (reply.Number t) = takes_if (nat_le t TICKET_LIMIT) (next t) GivesUp n (λ _. h t) (λ _. tt)
next_in_takes next n h r = tt

get_item_takes : (k : Kind) (id : ℕ) (next : Option Item → SessionProgram) (n : ℕ) → ((o : Option Item) → Takes (next o) n)
    → Takes (programs.get_item k id next) (n + 1)
get_item_takes k id next n h = (n, omega arith, map_on k, item_in_takes next n h)

put_item_takes : (k : Kind) (id : ℕ) (i : Item) (next : SessionProgram) (n : ℕ) → Takes next n
    → Takes (programs.put_item k id i next) (n + 1)
put_item_takes k id i next n h = (n, omega arith, map_on k, λ r. h)

remove_item_takes : (k : Kind) (id : ℕ) (next : SessionProgram) (n : ℕ) → Takes next n → Takes (programs.remove_item k id next) (n + 1)
remove_item_takes k id next n h = (n, omega arith, map_on k, λ r. h)

get_customer_takes : (c : ℕ) (next : Option Customer → SessionProgram) (n : ℕ) → ((o : Option Customer) → IsWithin o → Takes (next o) n)
    → Takes (programs.get_customer c next) (n + 1)
get_customer_takes c next n h = (n, omega arith, omega arith, customer_in_takes next n h)

put_customer_takes : (c : ℕ) (who : Customer) (next : SessionProgram) (n : ℕ) → Takes next n
    → Takes (programs.put_customer c who next) (n + 1)
put_customer_takes c who next n h = (n, omega arith, omega arith, λ r. h)

remove_customer_takes : (c : ℕ) (next : SessionProgram) (n : ℕ) → Takes next n → Takes (programs.remove_customer c next) (n + 1)
remove_customer_takes c next n h = (n, omega arith, omega arith, λ r. h)

get_ticket_takes : (t : ℕ) (next : Option Ticket → SessionProgram) (n : ℕ) → ((o : Option Ticket) → Takes (next o) n)
    → Takes (programs.get_ticket t next) (n + 1)
get_ticket_takes t next n h = (n, omega arith, omega arith, ticket_in_takes next n h)

put_ticket_takes : (t : ℕ) (x : Ticket) (next : SessionProgram) (n : ℕ) → Takes next n → Takes (programs.put_ticket t x next) (n + 1)
put_ticket_takes t x next n h = (n, omega arith, omega arith, λ r. h)

remove_ticket_takes : (t : ℕ) (next : SessionProgram) (n : ℕ) → Takes next n → Takes (programs.remove_ticket t next) (n + 1)
remove_ticket_takes t next n h = (n, omega arith, omega arith, λ r. h)

read_next_takes : (next : ℕ → SessionProgram) (n : ℕ) → ((t : ℕ) → Takes (next t) n) → Takes (programs.read_next next) (n + 1)
read_next_takes next n h = (n, omega arith, refl, next_in_takes next n h)

write_next_takes : (t : ℕ) (next : SessionProgram) (n : ℕ) → Takes next n → Takes (programs.write_next t next) (n + 1)
write_next_takes t next n h = (n, omega arith, refl, λ r. h)

enqueue_takes : (k : Kind) (t : ℕ) (next : SessionProgram) (n : ℕ) → Takes next n → Takes (programs.enqueue k t next) (n + 2)
enqueue_takes k t next n h = (n, omega arith, queue_on k, λ r. h)

dequeue_takes : (k : Kind) (next : SessionProgram) (n : ℕ) → Takes next n → Takes (programs.dequeue k next) (n + 2)
dequeue_takes k next n h = (n, omega arith, queue_on k, λ r. h)

peek_takes : (k : Kind) (next : Option ℕ → SessionProgram) (n : ℕ) → ((o : Option ℕ) → Takes (next o) n)
    → Takes (programs.peek k next) (n + 2)
peek_takes k next n h = (n, omega arith, queue_on k, first_in_takes next n h)

-- ---- reserve
abbrev Best : Type 0
Best = Option (ℕ × Item)

gather_takes : (asks : List Ask) (car flight room : Best) (next : Best → Best → Best → SessionProgram) (n : ℕ)
    → ((a b c : Best) → Takes (next a b c) n) → Takes (programs.gather asks car flight room next) (n + length asks)
gather_takes [] car flight room next n h = takes_more (next car flight room) n (n + 0) (omega arith) (h car flight room)
gather_takes (ask ∷ asks) car flight room next n h =
    takes_more (programs.gather (ask ∷ asks) car flight room next) (n + length asks + 1) (n + length (ask ∷ asks)) (omega arith)
    (get_item_takes ask.kind ask.id _ (n + length asks)
    (λ o. gather_takes asks (programs.better Car ask o car) (programs.better Flight ask o flight)
    (programs.better Room ask o room) next n h))

line_up_takes : (c units : ℕ) (k : Kind) (id : ℕ) (who : Customer) (next : KindReply → Customer → SessionProgram) (t n : ℕ)
    → ((p : KindReply) (w : Customer) → Takes (next p w) n) → Takes (programs.line_up c units k id who next t) (n + 4)
line_up_takes c units k id who next t n h =
    takes_if (t == TICKET_LIMIT) _ _ (n + 4)
    (λ _. takes_more _ n (n + 4) (omega arith) (h _ _))
    (λ _. (
    let queued = programs.enqueue k t (next (part.Waits id t) (programs.with_wait units k id t who)) in
    let x : Ticket = record { customer = c; kind = k; id = id; units = units } in
    let put = programs.put_ticket t x queued in
    takes_more (programs.write_next (t + 1) put) (n + 2 + 1 + 1) (n + 4) (omega arith)
    (write_next_takes (t + 1) put (n + 2 + 1) (put_ticket_takes t x queued (n + 2) (enqueue_takes k t _ n (h _ _))))))

decide_takes : (c units : ℕ) (k : Kind) (o : Best) (who : Customer) (next : KindReply → Customer → SessionProgram) (n : ℕ)
    → ((p : KindReply) (w : Customer) → Takes (next p w) n) → Takes (programs.decide c units k o who next) (n + 5)
decide_takes c units k None who next n h = takes_more _ n (n + 5) (omega arith) (h _ _)
decide_takes c units k (Some x) who next n h =
    takes_if (has who k x.0) _ _ (n + 5) (λ _. takes_more _ n (n + 5) (omega arith) (h _ _))
    (λ _. takes_if (is_full who) _ _ (n + 5) (λ _. takes_more _ n (n + 5) (omega arith) (h _ _))
    (λ _. takes_if (nat_le units x.1.free) _ _ (n + 5)
    (λ _. (
    let rest = next (part.Booked x.0 units x.1.price) (programs.with_booking units k x.0 x.1.price who) in
    takes_more (programs.put_item k x.0 (take_units units x.1) rest) (n + 1) (n + 5) (omega arith)
    (put_item_takes k x.0 (take_units units x.1) rest n (h _ _))))
    (λ _. takes_more (programs.read_next (programs.line_up c units k x.0 who next)) (n + 4 + 1) (n + 5) (omega arith)
    (read_next_takes (programs.line_up c units k x.0 who next) (n + 4) (λ t. line_up_takes c units k x.0 who next t n h)))))

put_changed_takes : (c : ℕ) (o : Option Customer) (b : Bool) (who : Customer) (next : SessionProgram) (n : ℕ) → Takes next n
    → Takes (programs.put_changed c o b who next) (n + 1)
put_changed_takes c None b who next n h = put_customer_takes c who next n h
put_changed_takes c (Some old) b who next n h =
    takes_if b (programs.put_customer c who next) next (n + 1) (λ _. put_customer_takes c who next n h)
    (λ _. takes_more next n (n + 1) (omega arith) h)

decide_all_takes : (c units : ℕ) (car flight room : Best) (o : Option Customer) → Takes (programs.decide_all c units car flight room o) 16
decide_all_takes c units car flight room o =
    let third_on : KindReply → KindReply → KindReply → Customer → SessionProgram = λ first second third three.
    programs.put_changed c o (programs.is_change first || (programs.is_change second || programs.is_change third)) three
    (Answers (Reserved (record { car = first; flight = second; room = third }))) in
    let second_on : KindReply → KindReply → Customer → SessionProgram =
    λ first second two. programs.decide c units Room room two (third_on first second) in
    let first_on : KindReply → Customer → SessionProgram = λ first one. programs.decide c units Flight flight one (second_on first) in
    decide_takes c units Car car (unwrap_or o newcomer) first_on 11 (λ first one.
    decide_takes c units Flight flight one (second_on first) 6 (λ second two.
    decide_takes c units Room room two (third_on first second) 1 (λ third three. put_changed_takes c o _ three _ 0 tt)))

reserve_takes : (c units : ℕ) (asks : List Ask) → Takes (programs.reserve c units asks) (17 + length asks)
reserve_takes c units asks =
    gather_takes asks None None None (programs.reserve_among c units) 17
    (λ car flight room. takes_if (is_none car && (is_none flight && is_none room)) _ _ 17 (λ _. tt)
    (λ _. get_customer_takes c (programs.decide_all c units car flight room) 16 (λ o _. decide_all_takes c units car flight room o)))

-- ---- delete
give_back_takes : (b : Booking) (o : Option Item) (next : SessionProgram) (n : ℕ) → Takes next n
    → Takes (programs.give_back b o next) (n + 1)
give_back_takes b None next n h = tt
give_back_takes b (Some i) next n h =
    takes_if (nat_lt i.used b.units) GivesUp _ (n + 1) (λ _. tt) (λ _. put_item_takes b.kind b.id (give_units b.units i) next n h)

give_all_back_takes : (bs : List Booking) (next : SessionProgram) (n : ℕ) → Takes next n
    → Takes (programs.give_all_back bs next) (n + 2 * length bs)
give_all_back_takes [] next n h = takes_more next n (n + 2 * 0) (omega arith) h
give_all_back_takes (b ∷ bs) next n h =
    takes_more (programs.give_all_back (b ∷ bs) next) (n + 2 * length bs + 1 + 1) (n + 2 * length (b ∷ bs)) (omega arith)
    (get_item_takes b.kind b.id _ (n + 2 * length bs + 1)
    (λ o. give_back_takes b o (programs.give_all_back bs next) (n + 2 * length bs) (give_all_back_takes bs next n h)))

forget_all_takes : (ws : List Wait) (next : SessionProgram) (n : ℕ) → Takes next n → Takes (programs.forget_all ws next) (n + length ws)
forget_all_takes [] next n h = takes_more next n (n + 0) (omega arith) h
forget_all_takes (w ∷ ws) next n h =
    takes_more (programs.forget_all (w ∷ ws) next) (n + length ws + 1) (n + length (w ∷ ws)) (omega arith)
    (remove_ticket_takes w.ticket (programs.forget_all ws next) (n + length ws) (forget_all_takes ws next n h))

end_wait_takes : (k : Kind) (t : ℕ) (next : SessionProgram) (n : ℕ) → Takes next n → Takes (programs.end_wait k t next) (n + 3)
end_wait_takes k t next n h =
    takes_more (programs.end_wait k t next) (n + 1 + 2) (n + 3) (omega arith)
    (dequeue_takes k (programs.remove_ticket t next) (n + 1) (remove_ticket_takes t next n h))

change_waiter_takes : (c t : ℕ) (change : Customer → Customer) (next : SessionProgram) (n : ℕ) → Takes next n
    → Takes (programs.change_waiter c t change next) (n + 2)
change_waiter_takes c t change next n h =
    takes_more (programs.change_waiter c t change next) (n + 1 + 1) (n + 2) (omega arith)
    (get_customer_takes c _ (n + 1) (λ o _. put_customer_takes c (change (without_wait t (unwrap_or o newcomer))) next n h))

serve_item_takes : (k : Kind) (t : ℕ) (x : Ticket) (o : Option Item) (later : ℕ → SessionProgram) (next : SessionProgram) (n : ℕ)
    → ((m : ℕ) → Takes (later m) n) → Takes next n → Takes (programs.serve_item k t x o later next) (n + 6)
serve_item_takes k t x None later next n h g =
    let changed = programs.change_waiter x.customer t (λ who. who) (later 0) in
    takes_more (programs.serve_item k t x None later next) (n + 2 + 3) (n + 6) (omega arith)
    (end_wait_takes k t changed (n + 2) (change_waiter_takes x.customer t (λ who. who) (later 0) n (h 0)))
serve_item_takes k t x (Some i) later next n h g =
    let change = programs.with_booking x.units x.kind x.id i.price in
    let changed = programs.change_waiter x.customer t change (later 1) in
    let put = programs.put_item x.kind x.id (take_units x.units i) changed in
    takes_if (nat_le x.units i.free) (programs.end_wait k t put) next (n + 6)
    (λ _. takes_more (programs.end_wait k t put) (n + 2 + 1 + 3) (n + 6) (omega arith)
    (end_wait_takes k t put (n + 2 + 1) (put_item_takes x.kind x.id (take_units x.units i) changed (n + 2)
    (change_waiter_takes x.customer t change (later 1) n (h 1)))))
    (λ _. takes_more next n (n + 6) (omega arith) g)

serve_ticket_takes : (k : Kind) (t : ℕ) (o : Option Ticket) (later : ℕ → SessionProgram) (next : SessionProgram) (n : ℕ)
    → ((m : ℕ) → Takes (later m) n) → Takes next n → Takes (programs.serve_ticket k t o later next) (n + 7)
serve_ticket_takes k t None later next n h g =
    takes_more (programs.serve_ticket k t None later next) (n + 2) (n + 7) (omega arith) (dequeue_takes k (later 0) n (h 0))
serve_ticket_takes k t (Some x) later next n h g =
    takes_more (programs.serve_ticket k t (Some x) later next) (n + 6 + 1) (n + 7) (omega arith)
    (get_item_takes x.kind x.id _ (n + 6) (λ o. serve_item_takes k t x o later next n h g))

serve_first_takes : (k : Kind) (o : Option ℕ) (later : ℕ → SessionProgram) (next : SessionProgram) (n : ℕ)
    → ((m : ℕ) → Takes (later m) n) → Takes next n → Takes (programs.serve_first k o later next) (n + 8)
serve_first_takes k None later next n h g = takes_more next n (n + 8) (omega arith) g
serve_first_takes k (Some t) later next n h g =
    takes_more (programs.serve_first k (Some t) later next) (n + 7 + 1) (n + 8) (omega arith)
    (get_ticket_takes t _ (n + 7) (λ o. serve_ticket_takes k t o later next n h g))

serve_takes : (m : ℕ) (k : Kind) (next : ℕ → SessionProgram) (n : ℕ) → ((i : ℕ) → Takes (next i) n)
    → Takes (programs.serve m k next) (n + 10 * m)
serve_takes zero k next n h = takes_more (next 0) n (n + 10 * 0) (omega arith) (h 0)
serve_takes (suc m) k next n h =
    let all = n + 10 * m in
    takes_more (programs.serve (suc m) k next) (all + 8 + 2) (n + 10 * suc m) (omega arith)
    (peek_takes k _ (all + 8) (λ o. serve_first_takes k o (λ one. programs.serve m k (λ more. next (one + more))) (next 0) all
    (λ one. serve_takes m k (λ more. next (one + more)) n (λ i. h (one + i))) (takes_more (next 0) n all (omega arith) (h 0))))

serve_freed_takes : (bs : List Booking) (k : Kind) (next : ℕ → SessionProgram) (n : ℕ) → ((i : ℕ) → Takes (next i) n)
    → Takes (programs.serve_freed bs k next) (n + 100)
serve_freed_takes bs k next n h =
    takes_if (list_any (λ b. same_kind b.kind k) bs) (programs.serve 10 k next) (next 0) (n + 100) (λ _. serve_takes 10 k next n h)
    (λ _. takes_more (next 0) n (n + 100) (omega arith) (h 0))

serve_all_takes : (bs : List Booking) (next : ℕ → SessionProgram) (n : ℕ) → ((i : ℕ) → Takes (next i) n)
    → Takes (programs.serve_all bs next) (n + 300)
serve_all_takes bs next n h =
    takes_more (programs.serve_all bs next) (n + 100 + 100 + 100) (n + 300) (omega arith)
    (serve_freed_takes bs Car _ (n + 100 + 100) (λ car.
    serve_freed_takes bs Flight _ (n + 100) (λ flight. serve_freed_takes bs Room _ n (λ room. h (car + flight + room)))))

few_places : (who : Customer) → is_customer_within who ≡ true → length who.bookings + length who.waits ≤ 1000
few_places who is = by (nat_le (places who) PLACE_LIMIT) (list_all is_booking_within who.bookings) refl is
  where
    by : (b c : Bool) → nat_le (places who) PLACE_LIMIT ≡ b → (b && c) ≡ true → length who.bookings + length who.waits ≤ 1000
    by true c e is = nat_le-true (places who) PLACE_LIMIT e
    by false c e is = absurd (true≢false (sym is))

delete_found_takes : (c : ℕ) (o : Option Customer) → IsWithin o → Takes (programs.delete_found c o) 2301
delete_found_takes c None within = tt
delete_found_takes c (Some who) within =
    let few = few_places who within in
    let answer : ℕ → SessionProgram = λ served. Answers (Deleted (bill who.bookings) served) in
    let served = programs.serve_all who.bookings answer in
    let gone = programs.remove_customer c served in
    let forgotten = programs.forget_all who.waits gone in
    takes_more (programs.delete_found c (Some who)) (0 + 300 + 1 + length who.waits + 2 * length who.bookings) 2301 (omega (arith, few))
    (give_all_back_takes who.bookings forgotten (0 + 300 + 1 + length who.waits)
    (forget_all_takes who.waits gone (0 + 300 + 1) (remove_customer_takes c served (0 + 300)
    (serve_all_takes who.bookings answer 0 (λ m. tt)))))

delete_takes : (c : ℕ) → Takes (programs.delete c) 2302
delete_takes c = get_customer_takes c (programs.delete_found c) 2301 (delete_found_takes c)

-- ---- update
set_item_takes : (k : Kind) (id : ℕ) (old new : Option Item) (next : SessionProgram) (n : ℕ) → Takes next n
    → Takes (programs.set_item k id old new next) (n + 1)
set_item_takes k id None None next n h = takes_more next n (n + 1) (omega arith) h
set_item_takes k id (Some i) None next n h = remove_item_takes k id next n h
set_item_takes k id None (Some j) next n h = put_item_takes k id j next n h
set_item_takes k id (Some i) (Some j) next n h =
    takes_if (programs.is_same_item i j) next _ (n + 1) (λ _. takes_more next n (n + 1) (omega arith) h)
    (λ _. put_item_takes k id j next n h)

change_each_takes : (cs : List Change) (next : List ChangeReply → SessionProgram) (n : ℕ)
    → ((made : List ChangeReply) → Takes (next made) n)
    → Takes (programs.change_each cs next) (n + 2 * length cs)
change_each_takes [] next n h = takes_more (next []) n (n + 2 * 0) (omega arith) (h [])
change_each_takes (c ∷ cs) next n h =
    takes_more (programs.change_each (c ∷ cs) next) (n + 2 * length cs + 1 + 1) (n + 2 * length (c ∷ cs)) (omega arith)
    (get_item_takes (kind_of c) (id_of c) _ (n + 2 * length cs + 1) (λ o.
    set_item_takes (kind_of c) (id_of c) o (changed c o).1 _ (n + 2 * length cs)
    (change_each_takes cs (λ more. next ((changed c o).0 ∷ more)) n (λ more. h ((changed c o).0 ∷ more)))))

-- ---- the session
pub session_takes : (action : Action) → IsAllowed action → Takes (session action) 4096
session_takes (Reserve c units asks) allowed =
    let few = allowed.1.1 in takes_more (programs.reserve c units asks) (17 + length asks) 4096 (omega (arith, few))
    (reserve_takes c units asks)
session_takes (Delete c) allowed = takes_more (programs.delete c) 2302 4096 (omega arith) (delete_takes c)
session_takes (Update changes) allowed =
    let few = allowed.0.1 in
    takes_more (programs.update changes) (0 + 2 * length changes) 4096 (omega (arith, few))
    (change_each_takes changes (λ made. Answers (Updated made)) 0 (λ made. tt))
session_takes (QueryItem k id) allowed =
    takes_more (programs.query_item k id) 1 4096 (omega arith) (get_item_takes k id _ 0 (λ o. tt))
session_takes (QueryBill c) allowed =
    takes_more (programs.query_bill c) 1 4096 (omega arith) (get_customer_takes c _ 0 (λ o _. tt))

-- ---- along the calls
pub takes_rest : (calls : List (Call Entry × Reply Entry)) (p q : SessionProgram) (n : ℕ) → Takes p n → Follows p calls q
    → (m : ℕ) × (weights calls + m ≤ n) × Takes q m
takes_rest [] p q n h f = (n, omega arith, subst (λ (r : SessionProgram). Takes r n) f h)
takes_rest (c ∷ cs) (Asks call next) q n h f =
    let rest = takes_rest cs (next c.1) q h.0 (h.3 c.1) f.1 in
    let few = h.1 in
    let more = rest.1 in
    let same = ap (λ (d : Call Entry). weight d.op) f.0 in
    (rest.0, omega (arith, few, more, same), rest.2)
takes_rest (c ∷ cs) (Answers a) q n h f = absurd f
takes_rest (c ∷ cs) GivesUp q n h f = absurd f

one_each : (op : Op Entry) → 1 ≤ weight op
one_each (Enqueue x) = omega arith
one_each Dequeue = omega arith
one_each Peek = omega arith
one_each op = omega arith

pub no_more_calls : (calls : List (Call Entry × Reply Entry)) → length calls ≤ weights calls
no_more_calls [] = omega arith
no_more_calls (c ∷ cs) = let one = one_each c.0.op in let more = no_more_calls cs in omega (arith, one, more)

small_on : (op : Op Entry) (t : ℕ) → IsOn op t → IsSmall op
small_on Read t h = tt
small_on (Write v) t h = tt
small_on (Get k) t h = tt
small_on (Put k v) t h = tt
small_on (Remove k) t h = tt
small_on (Enqueue x) t h = tt
small_on Dequeue t h = tt
small_on Peek t h = tt
small_on op t h = absurd h

pub asks_fit : (action : Action) (calls : List (Call Entry × Reply Entry)) (call : Call Entry) (next : Reply Entry → SessionProgram)
    → IsAllowed action → Follows (session action) calls (Asks call next) → Fits calls call
asks_fit action calls call next allowed f =
    let rest = takes_rest calls (session action) (Asks call next) 4096 (session_takes action allowed) f in
    let total = rest.1 in
    let few = rest.2.1 in
    let long = no_more_calls calls in
    let one = one_each call.op in
    record {
      on = rest.2.2;
      small = small_on call.op call.target rest.2.2;
      short = omega (arith, total, few, long, one);
      room = omega (arith, total, few);
    }
