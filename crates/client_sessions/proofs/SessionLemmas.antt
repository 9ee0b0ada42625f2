-- The session of an action, run on the state that holds balanced tables, is the action.
use Rattle.std.proofs.Common.{◌≡◌, ◌≢◌, ℕ, zero, suc, ◌+◌, ◌≤◌, ◌==◌, ◌&&◌, ◌||◌, Bool, true, false, cond, List, [], ◌∷◌, length, Option}
use Rattle.std.proofs.Common.{Some, None, All, refl, sym, ◌∙◌, ap, arith}
use Rattle.std.specs.Prelude.{option_map, option_and_then, is_none, nat_lt, nat_le, fold, unwrap_or}
use Rattle.std.specs.List.{list_all, list_any}
use Rattle.std.specs.Ordering.{nat_cmp}
use Rattle.std.specs.Cmp.{nat_cmp_total}
use Rattle.std.specs.FinMap.{FinMap, get, insert, remove, same_map, nat_cmp-IsAntisymmetric}
use Rattle.std.proofs.lemmas.Bool.{cond_both}
use Rattle.std.proofs.lemmas.Bool.Decides.{nat_tests}
use Rattle.std.proofs.lemmas.Option.{none-some}
use Rattle.seq_model.specs.Calls.{value_reply}
use Rattle.seq_model.specs.Queues.{first_of}
use Rattle.seq_model.specs.Runs.{after_calls}
use Rattle.vac_model.specs.declared.item.Kind.{Kind}
use Rattle.vac_model.specs.declared.item.Kind.TheVariants.{Car, Flight, Room}
use Rattle.vac_model.specs.declared.item.Item.{Item}
use Rattle.vac_model.specs.declared.item.Booking.{Booking}
use Rattle.vac_model.specs.declared.item.Wait.{Wait}
use Rattle.vac_model.specs.declared.item.Customer.{Customer}
use Rattle.vac_model.specs.declared.item.Ticket.{Ticket}
use Rattle.vac_model.specs.declared.action.Ask.{Ask}
use Rattle.vac_model.specs.declared.action.Change.{Change}
use Rattle.vac_model.specs.declared.action.ChangeReply.{ChangeReply}
use Rattle.vac_model.specs.declared.action.KindReply.{KindReply}
use Rattle.vac_model.specs.declared.action.KindReply.TheVariants.{Booked, Waits}
use Rattle.vac_model.specs.declared.action.Action.{Action}
use Rattle.vac_model.specs.declared.action.Action.TheVariants.{Reserve, Delete, Update, QueryItem, QueryBill}
use Rattle.vac_model.specs.declared.action.ActionReply.{ActionReply}
use Rattle.vac_model.specs.declared.action.ActionReply.TheVariants.{Reserved, Deleted, Updated}
use Rattle.vac_model.specs.declared.limits.TheConstants.{AMOUNT_LIMIT, PLACE_LIMIT, SERVE_LIMIT, TICKET_LIMIT}
use Rattle.vac_model.specs.Holdings.{Holdings, same_kind, with_kind, item, put_item, remove_item, set_item, customer, customer_or_new}
use Rattle.vac_model.specs.Holdings.{newcomer, put_customer, remove_customer, ticket, remove_ticket, queue}
use Rattle.vac_model.specs.Actions.{has, is_full, take_units, give_units, book, give_ticket, await, candidate, dearer, part_of, settle}
use Rattle.vac_model.specs.Actions.{decide, decide_all, reserve_among, IsThere, take_off, without_wait, end_wait, serve_item, serve_ticket}
use Rattle.vac_model.specs.Actions.{serve_first, go_on, serve, serve_freed, serve_all, put_back, release, forget, give_up, bill}
use Rattle.vac_model.specs.Actions.{delete_this, changed, kind_of, id_of, change_of, update, item_reply, bill_reply, action_of}
use Rattle.vac_model.specs.Actions.{IsAmountWithin, IsAllowed, AreUnits}
use Rattle.vac_model.specs.Balanced.{AreItemsSound, HasUnits, IsItemSound, IsBookingWithin, IsCustomerSound, used_of, IsBalanced}
use Rattle.vac_model.specs.Tests.{is_item_sound, are_units}
use Rattle.vac_model.proofs.MapLemmas.{insert_both, remove_both}
use Rattle.vac_model.proofs.HoldingLemmas.{kind_both, put_customer_both}
use Rattle.vac_model.proofs.CandidateLemmas.{dearer_none, dearer_assoc}
use Rattle.vac_model.proofs.BalanceLemmas.{AreCustomersSound, join_keeps, take_off_keeps, end_keeps, serve_keeps}
use Rattle.vac_model.proofs.ReserveLemmas.{candidate_there, decided_keeps, decided_there, there_later, car_flight, reserved}
use Rattle.vac_model.proofs.DeleteLemmas.{IsReleased, units_by, release_one, first_units, rest_units, own_units_used, give_up_keeps}
use Rattle.vac_model.proofs.DeleteLemmas.{serve_freed_keeps}
use Rattle.vac_model.proofs.UpdateLemmas.{IsSoundIfThere, change_keeps}
use Rattle.client_sessions.specs.declared.entry.Entry.TheVariants.{Item as Stock, Customer as Client}
use Rattle.client_sessions.specs.Holding.{state_of}
use Rattle.seq_model.specs.Programs.{Asks, run, Answers, GivesUp}
use Rattle.client_sessions.specs.Sessions as ask
use Rattle.client_sessions.specs.Laws.{EndsAsAction, NeverGivesUp, AsksLegalCalls}
use Rattle.seq_model.proofs.ProgramLemmas.{followed_run}
use Rattle.client_sessions.proofs.HoldingLemmas.{run_get_item, run_put_item, run_remove_item, run_get_customer, run_put_customer}
use Rattle.client_sessions.proofs.HoldingLemmas.{run_remove_customer, got_ticket, run_remove_ticket}
use Rattle.client_sessions.proofs.HoldingLemmas.{got_first, run_dequeue, run_give_ticket}

-- ---- sound entries pass the session's tests

item_passes : (i : Item) → IsItemSound i → is_item_sound i ≡ true
item_passes i sound =
    let total : i.total ≤ AMOUNT_LIMIT = sound.1 in
    let price : i.price ≤ AMOUNT_LIMIT = sound.2 in
    let sum : i.used + i.free ≡ i.total = sound.0 in
    grind (arith, nat_tests)

abbrev is_booking_within : Booking → Bool
is_booking_within b = are_units b.units && nat_le b.price AMOUNT_LIMIT

bookings_pass : (bs : List Booking) → All IsBookingWithin bs → list_all is_booking_within bs ≡ true
bookings_pass [] h = refl
bookings_pass (b ∷ bs) h =
    let first : IsBookingWithin b = h zero b (omega arith) in
    let low : 1 ≤ b.units = first.0.0 in
    let high : b.units ≤ 1000 = first.0.1 in
    let price : b.price ≤ AMOUNT_LIMIT = first.1 in
    let one : is_booking_within b ≡ true = grind (arith, nat_tests) in
    let rest : list_all is_booking_within bs ≡ true = bookings_pass bs (λ i d lt. h (suc i) d (omega (arith, lt))) in
    (λ j. one j && rest j)

customer_passes : (who : Customer) → IsCustomerSound who → ask.is_customer_within who ≡ true
customer_passes who sound =
    let few : length who.bookings + length who.waits ≤ PLACE_LIMIT = sound.places_within in
    let one : nat_le (length who.bookings + length who.waits) PLACE_LIMIT ≡ true = grind (arith, nat_tests) in
    let rest : list_all is_booking_within who.bookings ≡ true = bookings_pass who.bookings sound.bookings_within in
    (λ j. one j && rest j)

item_in_sound : (o : Option Item) (next : Option Item → ask.SessionProgram) → IsSoundIfThere o
    → ask.item_in (value_reply (option_map Stock o)) next ≡ next o
item_in_sound None next sound = refl
item_in_sound (Some i) next sound = ap (λ b. cond b (next (Some i)) GivesUp) (item_passes i (sound i refl))

customer_in_sound : (o : Option Customer) (next : Option Customer → ask.SessionProgram)
    → ((who : Customer) → o ≡ Some who → IsCustomerSound who)
    → ask.customer_in (value_reply (option_map Client o)) next ≡ next o
customer_in_sound None next sound = refl
customer_in_sound (Some who) next sound = ap (λ b. cond b (next (Some who)) GivesUp) (customer_passes who (sound who refl))

got_item : (k : Kind) (id : ℕ) (next : Option Item → ask.SessionProgram) (s : Holdings) → AreItemsSound s
    → run (ask.get_item k id next) (state_of s) ≡ run (next (item k id s)) (state_of s)
got_item k id next s sound = run_get_item k id next s ∙ ap (λ p. run p (state_of s)) (item_in_sound (item k id s) next (sound k id))

got_customer : (c : ℕ) (next : Option Customer → ask.SessionProgram) (s : Holdings) → AreCustomersSound s
    → run (ask.get_customer c next) (state_of s) ≡ run (next (customer c s)) (state_of s)
got_customer c next s sound = run_get_customer c next s ∙ ap (λ p. run p (state_of s)) (customer_in_sound (customer c s) next (sound c))

-- ---- maps
module _ {V : Type 0} where
  insert_same : (m : FinMap nat_cmp V) (k : ℕ) (v : V) → get m k ≡ Some v → insert m k v ≡ m
  insert_same m k v is = same_map nat_cmp_total nat_cmp-IsAntisymmetric _ _
      (λ q. insert_both m k v q (λ o. o ≡ get m q) (λ e. sym is ∙ ap (get m) e) (λ _. refl))

  removed_absent : (m : FinMap nat_cmp V) (k : ℕ) → get m k ≡ None → remove m k ≡ m
  removed_absent m k none = same_map nat_cmp_total nat_cmp-IsAntisymmetric _ _
      (λ q. remove_both m k q (λ o. o ≡ get m q) (λ e. sym none ∙ ap (get m) e) (λ _. refl))

  insert_insert : (m : FinMap nat_cmp V) (k : ℕ) (v w : V) → insert (insert m k v) k w ≡ insert m k w
  insert_insert m k v w =
      same_map nat_cmp_total nat_cmp-IsAntisymmetric _ _ (λ q.
      insert_both (insert m k v) k w q (λ o. o ≡ get (insert m k w) q)
      (λ e. insert_both m k w q (λ o. Some w ≡ o) (λ _. refl) (λ n. absurd (n e)))
      (λ n. insert_both m k v q (λ o. o ≡ get (insert m k w) q)
      (λ e. absurd (n e))
      (λ _. insert_both m k w q (λ o. get m q ≡ o) (λ e. absurd (n e)) (λ _. refl))))

-- ---- a customer who was put once more
customer_there : (c : ℕ) (who : Customer) (t : Holdings) → customer_or_new c (put_customer c who t) ≡ who
customer_there c who t = put_customer_both c who t c (λ w. w ≡ who) (λ _. refl) (λ n. absurd (n refl))

put_again : (c : ℕ) (who after : Customer) (t : Holdings) → put_customer c after (put_customer c who t) ≡ put_customer c after t
put_again c who after t = ap (λ m. let u : Holdings = record t { customers = m } in u) (insert_insert t.customers c who after)

booked_is : (c units : ℕ) (k : Kind) (id : ℕ) (i : Item) (who : Customer) (t : Holdings)
    → book c units k id i (put_customer c who t)
    ≡ put_customer c (ask.with_booking units k id i.price who) (put_item k id (take_units units i) t)
booked_is c units k id i who t =
    ap (λ w. put_customer c (ask.with_booking units k id i.price w) (put_item k id (take_units units i) (put_customer c who t)))
    (customer_there c who t)
    ∙ put_again c who (ask.with_booking units k id i.price who) (put_item k id (take_units units i) t)

awaited_is : (c units : ℕ) (k : Kind) (id : ℕ) (who : Customer) (t : Holdings)
    → await c units k id (put_customer c who t) ≡ put_customer c (ask.with_wait units k id t.next who) (give_ticket c units k id t)
awaited_is c units k id who t =
    ap (λ w. put_customer c (ask.with_wait units k id t.next w) (give_ticket c units k id (put_customer c who t))) (customer_there c who t)
    ∙ put_again c who (ask.with_wait units k id t.next who) (give_ticket c units k id t)

-- ---- delete

given_back : (b : Booking) (o : Option Item) (next : ask.SessionProgram) (s : Holdings) → 1 ≤ b.units → b.units ≤ used_of o
    → run (ask.give_back b o next) (state_of s) ≡ run next (state_of (put_back b o s))
given_back b None next s some enough = absurd (omega (arith, some, enough))
given_back b (Some i) next s some enough =
    let P : ask.SessionProgram → Type 0 = λ p. run p (state_of s) ≡ run next (state_of (put_item b.kind b.id (give_units b.units i) s)) in
    cond_both (nat_lt i.used b.units) _ _ P (λ e. absurd (grind (arith, nat_tests)))
    (λ _. run_put_item b.kind b.id (give_units b.units i) next s)

given_all_back : (bs : List Booking) (next : ask.SessionProgram) (s : Holdings) → AreItemsSound s → All IsBookingWithin bs → HasUnits bs s
    → run (ask.give_all_back bs next) (state_of s) ≡ run next (state_of (fold release s bs))
given_all_back [] next s sound within has = refl
given_all_back (b ∷ bs) next s sound within has =
    let own : b.units ≤ used_of (item b.kind b.id s) = first_units b bs s has in
    let r : IsReleased (units_by b) s (release s b) = release_one b s sound own in
    let first : IsBookingWithin b = within zero b (omega arith) in
    got_item b.kind b.id (λ o. ask.give_back b o (ask.give_all_back bs next)) s sound
    ∙ given_back b (item b.kind b.id s) (ask.give_all_back bs next) s first.0.0 own
    ∙ given_all_back bs next (release s b) r.0 (λ i d lt. within (suc i) d (omega (arith, lt))) (rest_units b bs s r has)

forgot_all : (ws : List Wait) (next : ask.SessionProgram) (s : Holdings)
    → run (ask.forget_all ws next) (state_of s) ≡ run next (state_of (fold forget s ws))
forgot_all [] next s = refl
forgot_all (w ∷ ws) next s = run_remove_ticket w.ticket (ask.forget_all ws next) s ∙ forgot_all ws next (forget s w)

-- the customer may go first or last
released_later : (c : ℕ) (b : Booking) (o : Option Item) (s : Holdings)
    → remove_customer c (put_back b o s) ≡ put_back b o (remove_customer c s)
released_later c b None s = refl
released_later c b (Some i) s = refl

release_without : (c : ℕ) (bs : List Booking) (s : Holdings) → remove_customer c (fold release s bs) ≡ fold release (remove_customer c s) bs
release_without c [] s = refl
release_without c (b ∷ bs) s = release_without c bs (release s b) ∙ ap (λ t. fold release t bs) (released_later c b (item b.kind b.id s) s)

forget_without : (c : ℕ) (ws : List Wait) (s : Holdings) → remove_customer c (fold forget s ws) ≡ fold forget (remove_customer c s) ws
forget_without c [] s = refl
forget_without c (w ∷ ws) s = forget_without c ws (forget s w)

gave_up : (c : ℕ) (who : Customer) (s : Holdings)
    → remove_customer c (fold forget (fold release s who.bookings) who.waits) ≡ give_up c who s
gave_up c who s = forget_without c who.waits (fold release s who.bookings)
    ∙ ap (λ t. fold forget t who.waits) (release_without c who.bookings s)

changed_waiter : (c t : ℕ) (change : Customer → Customer) (next : ask.SessionProgram) (s : Holdings) → AreCustomersSound s
    → run (ask.change_waiter c t change next) (state_of s)
    ≡ run next (state_of (put_customer c (change (without_wait t (customer_or_new c s))) s))
changed_waiter c t change next s sound =
    got_customer c (λ o. ask.put_customer c (change (without_wait t (unwrap_or o newcomer))) next) s sound
    ∙ run_put_customer c (change (without_wait t (customer_or_new c s))) next s

ended : (k : Kind) (t : ℕ) (next : ask.SessionProgram) (s : Holdings) → first_of (queue k s).tickets ≡ Some t
    → run (ask.end_wait k t next) (state_of s) ≡ run next (state_of (remove_ticket t (take_off k s)))
ended k t next s first = run_dequeue k t (ask.remove_ticket t next) s first ∙ run_remove_ticket t next (take_off k s)

-- what serving does, from a step on
module _ (n : ℕ) (later : ℕ → ask.SessionProgram) (next : ℕ → ask.SessionProgram) (k : Kind) (s : Holdings) (b : IsBalanced s)
    (goes_on : (one : ℕ) (u : Holdings) → IsBalanced u
    → run (later one) (state_of u) ≡ run (next (one + (serve n k u).0)) (state_of (serve n k u).1)) where
  abbrev Serves : ask.SessionProgram → Option (ℕ × Holdings) → Type 0
  Serves p o = run p (state_of s) ≡ run (next (go_on (serve n k) o s).0) (state_of (go_on (serve n k) o s).1)

  served_item : (t : ℕ) (x : Ticket) (o : Option Item) → first_of (queue k s).tickets ≡ Some t → ticket t s ≡ Some x
      → item x.kind x.id s ≡ o → Serves (ask.serve_item k t x o later (next 0)) (serve_item k t x o s)
  served_item t x None first there here =
      ended k t (ask.change_waiter x.customer t (λ who. who) (later 0)) s first
      ∙ changed_waiter x.customer t (λ who. who) (later 0) (remove_ticket t (take_off k s)) b.customers_sound
      ∙ goes_on 0 (end_wait t x (take_off k s)) (end_keeps k t s b first x there)
  served_item t x (Some i) first there here =
      let change : Customer → Customer = ask.with_booking x.units x.kind x.id i.price in
      let u : Holdings = remove_ticket t (take_off k s) in
      let v : Holdings = put_item x.kind x.id (take_units x.units i) u in
      let left : Customer = without_wait t (customer_or_new x.customer s) in
      let done : Holdings = book x.customer x.units x.kind x.id i (end_wait t x (take_off k s)) in
      let is : done ≡ put_customer x.customer (change left) v = booked_is x.customer x.units x.kind x.id i left u in
      elim (nat_le x.units i.free) as (λ c. nat_le x.units i.free ≡ c
      → Serves (cond c (ask.end_wait k t
      (ask.put_item x.kind x.id (take_units x.units i) (ask.change_waiter x.customer t change (later 1)))) (next 0))
      (cond c (Some (1, done)) None)) [
        | true ↦ λ e.
            ended k t (ask.put_item x.kind x.id (take_units x.units i) (ask.change_waiter x.customer t change (later 1))) s first
            ∙ run_put_item x.kind x.id (take_units x.units i) (ask.change_waiter x.customer t change (later 1)) u
            ∙ changed_waiter x.customer t change (later 1) v b.customers_sound
            ∙ ap (λ w. run (later 1) (state_of w)) (sym is)
            ∙ goes_on 1 done (serve_keeps k t s b first x there i here (grind (arith, nat_tests)))
        | false ↦ λ e. refl
      ] refl

  served_ticket : (t : ℕ) (o : Option Ticket) → first_of (queue k s).tickets ≡ Some t → ticket t s ≡ o
      → Serves (ask.serve_ticket k t o later (next 0)) (serve_ticket k t o s)
  served_ticket t None first gone = run_dequeue k t (later 0) s first ∙ goes_on 0 (take_off k s) (take_off_keeps k t s b first gone)
  served_ticket t (Some x) first there = got_item x.kind x.id (λ o. ask.serve_item k t x o later (next 0)) s b.items_sound
      ∙ served_item t x (item x.kind x.id s) first there refl

  served_first : (o : Option ℕ) → first_of (queue k s).tickets ≡ o → Serves (ask.serve_first k o later (next 0)) (serve_first k o s)
  served_first None first = refl
  served_first (Some t) first = got_ticket t (λ o. ask.serve_ticket k t o later (next 0)) s ∙ served_ticket t (ticket t s) first refl

served : (n : ℕ) (k : Kind) (next : ℕ → ask.SessionProgram) (s : Holdings) → IsBalanced s
    → run (ask.serve n k next) (state_of s) ≡ run (next (serve n k s).0) (state_of (serve n k s).1)
served zero k next s b = refl
served (suc n) k next s b =
    let later : ℕ → ask.SessionProgram = λ one. ask.serve n k (λ more. next (one + more)) in
    got_first k (λ o. ask.serve_first k o later (next 0)) s
    ∙ served_first n later next k s b (λ one u bu. served n k (λ more. next (one + more)) u bu) (first_of (queue k s).tickets) refl

served_freed : (bookings : List Booking) (k : Kind) (next : ℕ → ask.SessionProgram) (s : Holdings) → IsBalanced s
    → run (ask.serve_freed bookings k next) (state_of s) ≡ run (next (serve_freed bookings k s).0) (state_of (serve_freed bookings k s).1)
served_freed bookings k next s b =
    elim (list_any (λ x. same_kind x.kind k) bookings) as
    (λ c. run (cond c (ask.serve SERVE_LIMIT k next) (next 0)) (state_of s)
    ≡ run (next (cond {A = ℕ × Holdings} c (serve SERVE_LIMIT k s) (0, s)).0)
    (state_of (cond {A = ℕ × Holdings} c (serve SERVE_LIMIT k s) (0, s)).1)) [
      | true ↦ served SERVE_LIMIT k next s b
      | false ↦ refl
    ]

served_all : (bookings : List Booking) (next : ℕ → ask.SessionProgram) (s : Holdings) → IsBalanced s
    → run (ask.serve_all bookings next) (state_of s) ≡ run (next (serve_all bookings s).0) (state_of (serve_all bookings s).1)
served_all bookings next s b =
    let s1 : Holdings = (serve_freed bookings Car s).1 in
    let s2 : Holdings = (serve_freed bookings Flight s1).1 in
    let b1 : IsBalanced s1 = serve_freed_keeps bookings Car s b in
    let b2 : IsBalanced s2 = serve_freed_keeps bookings Flight s1 b1 in
    let one : ℕ = (serve_freed bookings Car s).0 in
    let two : ℕ = (serve_freed bookings Flight s1).0 in
    served_freed bookings Car (λ car. ask.serve_freed bookings Flight
    (λ flight. ask.serve_freed bookings Room (λ room. next (car + flight + room)))) s b
    ∙ served_freed bookings Flight (λ flight. ask.serve_freed bookings Room (λ room. next (one + flight + room))) s1 b1
    ∙ served_freed bookings Room (λ room. next (one + two + room)) s2 b2

delete_found_is : (c : ℕ) (o : Option Customer) (s : Holdings) → IsBalanced s → customer c s ≡ o
    → run (ask.delete_found c o) (state_of s) ≡ Some ((delete_this c o s).0, state_of (delete_this c o s).1)
delete_found_is c None s b is = refl
delete_found_is c (Some who) s b is =
    let end : ask.SessionProgram = ask.serve_all who.bookings (λ n. Answers (Deleted (bill who.bookings) n)) in
    let sound : IsCustomerSound who = b.customers_sound c who is in
    let t : Holdings = fold release s who.bookings in
    let u : Holdings = fold forget t who.waits in
    given_all_back who.bookings (ask.forget_all who.waits (ask.remove_customer c end)) s b.items_sound sound.bookings_within
    (own_units_used c who s b is)
    ∙ forgot_all who.waits (ask.remove_customer c end) t
    ∙ run_remove_customer c end u
    ∙ ap (λ v. run end (state_of v)) (gave_up c who s)
    ∙ served_all who.bookings (λ n. Answers (Deleted (bill who.bookings) n)) (give_up c who s) (give_up_keeps c who s b is)

-- ---- update

same_item : (i j : Item) → ask.is_same_item i j ≡ true → i ≡ j
same_item i j h =
    let a : i.total ≡ j.total = grind (arith, nat_tests) in
    let b : i.used ≡ j.used = grind (arith, nat_tests) in
    let c : i.free ≡ j.free = grind (arith, nat_tests) in
    let d : i.price ≡ j.price = grind (arith, nat_tests) in
    λ x. record { total = a x; used = b x; free = c x; price = d x }

put_same : (k : Kind) (id : ℕ) (i : Item) (s : Holdings) → item k id s ≡ Some i → put_item k id i s ≡ s
put_same Car id i s is = ap (λ m. let u : Holdings = record s { items = with_kind Car m s.items } in u) (insert_same s.items.car id i is)
put_same Flight id i s is = ap (λ m. let u : Holdings = record s { items = with_kind Flight m s.items } in
    u) (insert_same s.items.flight id i is)
put_same Room id i s is = ap (λ m. let u : Holdings = record s { items = with_kind Room m s.items } in u) (insert_same s.items.room id i is)

remove_none : (k : Kind) (id : ℕ) (s : Holdings) → item k id s ≡ None → remove_item k id s ≡ s
remove_none Car id s is = ap (λ m. let u : Holdings = record s { items = with_kind Car m s.items } in u) (removed_absent s.items.car id is)
remove_none Flight id s is = ap (λ m. let u : Holdings = record s { items = with_kind Flight m s.items } in
    u) (removed_absent s.items.flight id is)
remove_none Room id s is = ap (λ m. let u : Holdings = record s { items = with_kind Room m s.items } in
    u) (removed_absent s.items.room id is)

made_item : (k : Kind) (id : ℕ) (o r : Option Item) (next : ask.SessionProgram) (s : Holdings) → item k id s ≡ o
    → run (ask.set_item k id o r next) (state_of s) ≡ run next (state_of (set_item k id r s))
made_item k id None None next s is = ap (λ t. run next (state_of t)) (sym (remove_none k id s is))
made_item k id (Some i) None next s is = run_remove_item k id next s
made_item k id None (Some j) next s is = run_put_item k id j next s
made_item k id (Some i) (Some j) next s is =
    let P : ask.SessionProgram → Type 0 = λ p. run p (state_of s) ≡ run next (state_of (put_item k id j s)) in
    cond_both (ask.is_same_item i j) _ _ P
    (λ same. ap (λ t. run next (state_of t)) (sym (put_same k id j s (is ∙ ap (λ x. Some x) (same_item i j same)))))
    (λ _. run_put_item k id j next s)

changed_each : (cs : List Change) (next : List ChangeReply → ask.SessionProgram) (s : Holdings) → IsBalanced s → All IsAmountWithin cs
    → run (ask.change_each cs next) (state_of s) ≡ run (next (update cs s).0) (state_of (update cs s).1)
changed_each [] next s b within = refl
changed_each (c ∷ cs) next s b within =
    let o : Option Item = item (kind_of c) (id_of c) s in
    let rest : List ChangeReply → ask.SessionProgram = λ made. next ((changed c o).0 ∷ made) in
    got_item (kind_of c) (id_of c)
    (λ o. ask.set_item (kind_of c) (id_of c) o (changed c o).1
    (ask.change_each cs (λ made. next ((changed c o).0 ∷ made)))) s b.items_sound
    ∙ made_item (kind_of c) (id_of c) o (changed c o).1 (ask.change_each cs rest) s refl
    ∙ changed_each cs rest (change_of c s).1 (change_keeps c s b (within zero c (omega arith)))
    (λ i d lt. within (suc i) d (omega (arith, lt)))

-- ---- reserve

better_is : (k : Kind) (a : Ask) (asks : List Ask) (s : Holdings) (best : Option (ℕ × Item))
    → dearer (ask.better k a (item a.kind a.id s) best) (candidate k asks s) ≡ dearer best (candidate k (a ∷ asks) s)
better_is k a asks s best =
    let offer : Kind → Option (ℕ × Item) = λ l. option_map (λ i. (a.id, i)) (item l a.id s) in
    let rest : Option (ℕ × Item) = candidate k asks s in
    kind_both a.kind k (λ b. dearer (cond b (dearer best (offer a.kind)) best) rest ≡ dearer best (dearer (cond b (offer k) None) rest))
    (λ e. dearer_assoc best (offer a.kind) rest ∙ ap (λ l. dearer best (dearer (offer l) rest)) e)
    (λ _. refl)

gathered : (asks : List Ask) (car flight room : Option (ℕ × Item)) (next : Option (ℕ × Item) → Option (ℕ × Item) → Option (ℕ × Item)
    → ask.SessionProgram) (s : Holdings) → AreItemsSound s
    → run (ask.gather asks car flight room next) (state_of s)
    ≡ run (next (dearer car (candidate Car asks s)) (dearer flight (candidate Flight asks s))
    (dearer room (candidate Room asks s))) (state_of s)
gathered [] car flight room next s sound = sym
    (λ i. run (next (dearer_none car i) (dearer_none flight i) (dearer_none room i)) (state_of s))
gathered (a ∷ asks) car flight room next s sound =
    let o : Option Item = item a.kind a.id s in
    got_item a.kind a.id (λ o. ask.gather asks (ask.better Car a o car) (ask.better Flight a o flight)
    (ask.better Room a o room) next) s sound
    ∙ gathered asks (ask.better Car a o car) (ask.better Flight a o flight) (ask.better Room a o room) next s sound
    ∙ (λ i. run (next (better_is Car a asks s car i) (better_is Flight a asks s flight i) (better_is Room a asks s room i)) (state_of s))

-- what a part makes of a customer who is not put yet, and of the rest
abbrev after_of : ℕ → Kind → Option (ℕ × Item) → KindReply → Customer → Customer
after_of units k (Some x) (Booked id n price) who = ask.with_booking units k x.0 x.1.price who
after_of units k (Some x) (Waits id t) who = ask.with_wait units k x.0 t who
after_of units k _ _ who = who

abbrev left_of : ℕ → ℕ → Kind → Option (ℕ × Item) → KindReply → Holdings → Holdings
left_of c units k (Some x) (Booked id n price) t = put_item k x.0 (take_units units x.1) t
left_of c units k (Some x) (Waits id number) t = give_ticket c units k x.0 t
left_of c units k _ _ t = t

abbrev Decides : ℕ → ℕ → Kind → Option (ℕ × Item) → Customer → Holdings → KindReply → Type 0
Decides c units k o who t p = ◌≡◌ {A = KindReply × Holdings} (p, settle c units k o p (put_customer c who t))
    (p, put_customer c (after_of units k o p who) (left_of c units k o p t))

decides_part : (c units : ℕ) (k : Kind) (o : Option (ℕ × Item)) (who : Customer) (t : Holdings)
    → Decides c units k o who t (part_of who units t.next k o)
decides_part c units k None who t = refl
decides_part c units k (Some x) who t =
    let D : KindReply → Type 0 = Decides c units k (Some x) who t in
    cond_both (has who k x.0) _ _ D
    (λ _. refl)
    (λ _. cond_both (is_full who) _ _ D
    (λ _. refl)
    (λ _. cond_both (nat_le units x.1.free) _ _ D
    (λ _. let pair : Holdings → KindReply × Holdings = λ u. (Booked x.0 units x.1.price, u) in ap pair (booked_is c units k x.0 x.1 who t))
    (λ _. cond_both (t.next == TICKET_LIMIT) _ _ D
    (λ _. refl)
    (λ _. let pair : Holdings → KindReply × Holdings = λ u. (Waits x.0 t.next, u) in ap pair (awaited_is c units k x.0 who t)))))

decide_is : (c units : ℕ) (k : Kind) (o : Option (ℕ × Item)) (who : Customer) (t : Holdings)
    → decide c units k o (put_customer c who t)
    ≡ (
      part_of who units t.next k o,
      put_customer c (after_of units k o (part_of who units t.next k o) who)
          (left_of c units k o (part_of who units t.next k o) t),
    )
decide_is c units k o who t =
    let by : Customer → KindReply × Holdings = λ w.
    (part_of w units t.next k o, settle c units k o (part_of w units t.next k o) (put_customer c who t)) in
    ap by (customer_there c who t) ∙ decides_part c units k o who t

-- two choices by one test
both_ways : {A B : Type 0} (c : Bool) {a1 a2 : A} {b1 b2 : B} (E : A → B → Type 0) → (c ≡ true → E a1 b1) → (c ≡ false → E a2 b2)
    → E (cond c a1 a2) (cond c b1 b2)
both_ways c {a1} {a2} {b1} {b2} E then other = elim c as (λ t. c ≡ t → E (cond t a1 a2) (cond t b1 b2)) [ true ↦ then | false ↦ other ] refl

-- the program does the same
decided_run : (c units : ℕ) (k : Kind) (o : Option (ℕ × Item)) (who : Customer) (next : KindReply → Customer
    → ask.SessionProgram) (t : Holdings)
    → (queue k t).head + length (queue k t).tickets ≤ t.next → t.next ≤ TICKET_LIMIT
    → run (ask.decide c units k o who next) (state_of t)
    ≡ run (next (part_of who units t.next k o) (after_of units k o (part_of who units t.next k o) who))
    (state_of (left_of c units k o (part_of who units t.next k o) t))
decided_run c units k None who next t room within = refl
decided_run c units k (Some x) who next t room within =
    let E : KindReply → ask.SessionProgram → Type 0 = λ p q. run q (state_of t)
    ≡ run (next p (after_of units k (Some x) p who)) (state_of (left_of c units k (Some x) p t)) in
    both_ways (has who k x.0) E
    (λ _. refl)
    (λ _. both_ways (is_full who) E
    (λ _. refl)
    (λ _. both_ways (nat_le units x.1.free) E
    (λ _. run_put_item k x.0 (take_units units x.1) (next (Booked x.0 units x.1.price) (ask.with_booking units k x.0 x.1.price who)) t)
    (λ _.
    let few : nat_le t.next TICKET_LIMIT ≡ true = grind (arith, nat_tests) in
    let line : ask.SessionProgram = ask.line_up c units k x.0 who next t.next in
    let read : run (ask.read_next (ask.line_up c units k x.0 who next)) (state_of t)
    ≡ run line (state_of t) = ap (λ b. run (cond b line GivesUp) (state_of t)) few in
    read ∙ both_ways (t.next == TICKET_LIMIT) E
    (λ _. refl)
    (λ e.
    let not_last : t.next ≢ TICKET_LIMIT = grind (arith, nat_tests) in
    run_give_ticket c units k x.0 (next (Waits x.0 t.next) (ask.with_wait units k x.0 t.next who)) t
    (omega (arith, room, within, not_last))))))

customers-left_of : (c units : ℕ) (k : Kind) (o : Option (ℕ × Item)) (p : KindReply) (t : Holdings)
    → (left_of c units k o p t).customers ≡ t.customers
customers-left_of c units k None p t = refl
customers-left_of c units k (Some x) (Booked id n price) t = refl
customers-left_of c units k (Some x) (Waits id number) t = refl
customers-left_of c units k (Some x) _ t = refl

unchanged_part : (units : ℕ) (k : Kind) (o : Option (ℕ × Item)) (p : KindReply) (who : Customer) → ask.is_change p ≡ false
    → after_of units k o p who ≡ who
unchanged_part units k None p who h = refl
unchanged_part units k (Some x) (Booked id n price) who h = absurd (let e : true ≡ false = h in cc)
unchanged_part units k (Some x) (Waits id t) who h = absurd (let e : true ≡ false = h in cc)
unchanged_part units k (Some x) _ who h = refl

none_changed : (a b c : Bool) → (a || (b || c)) ≡ false → (a ≡ false) × (b ≡ false) × (c ≡ false)
none_changed true b c h = absurd (let e : true ≡ false = h in cc)
none_changed false true c h = absurd (let e : true ≡ false = h in cc)
none_changed false false c h = (refl, refl, h)

customer_put : (c : ℕ) (o : Option Customer) (is_new : Bool) (who : Customer) (next : ask.SessionProgram) (t : Holdings) → customer c t ≡ o
    → (is_new ≡ false → who ≡ unwrap_or o newcomer)
    → run (ask.put_changed c o is_new who next) (state_of t) ≡ run next (state_of (put_customer c who t))
customer_put c None is_new who next t is same = run_put_customer c who next t
customer_put c (Some old) true who next t is same = run_put_customer c who next t
customer_put c (Some old) false who next t is same =
    sym (ap (λ m. run next (state_of (record t { customers = m })))
    (insert_same t.customers c who (is ∙ ap (λ x. Some x) (sym (same refl)))))

placed : (c units : ℕ) (car flight room : Option (ℕ × Item)) (s : Holdings) → IsBalanced s → AreUnits units → IsThere Car s car
    → IsThere Flight s flight → IsThere Room s room
    → run (ask.decide_all c units car flight room (customer c s)) (state_of s)
    ≡ Some (
      (decide_all c units car flight room (put_customer c (customer_or_new c s) s)).0,
      state_of
          (decide_all c units car flight room (put_customer c (customer_or_new c s) s)).1,
    )
placed c units car flight room s b within is_car is_flight is_room =
    let none : Customer = customer_or_new c s in
    let first : KindReply = part_of none units s.next Car car in
    let one : Customer = after_of units Car car first none in
    let s1 : Holdings = left_of c units Car car first s in
    let second : KindReply = part_of one units s1.next Flight flight in
    let two : Customer = after_of units Flight flight second one in
    let s2 : Holdings = left_of c units Flight flight second s1 in
    let third : KindReply = part_of two units s2.next Room room in
    let three : Customer = after_of units Room room third two in
    let s3 : Holdings = left_of c units Room room third s2 in
    let is_new : Bool = ask.is_change first || (ask.is_change second || ask.is_change third) in
    let end : ask.SessionProgram = Answers (Reserved (record { car = first; flight = second; room = third })) in
    let d1 : decide c units Car car (put_customer c none s) ≡ (first, put_customer c one s1) = decide_is c units Car car none s in
    let d2 : decide c units Flight flight (put_customer c one s1)
    ≡ (second, put_customer c two s2) = decide_is c units Flight flight one s1 in
    let d3 : decide c units Room room (put_customer c two s2) ≡ (third, put_customer c three s3) = decide_is c units Room room two s2 in
    let b0 : IsBalanced (put_customer c none s) = join_keeps c s b in
    let b1 : IsBalanced (put_customer c one s1) = decided_keeps c units Car car (put_customer c none s) first
    (put_customer c one s1) b0 within (there_later Car s (put_customer c none s) (λ q. refl) car is_car) d1 in
    let t2 : IsThere Flight (put_customer c one s1) flight = decided_there c units Car car (put_customer c none s) first
    (put_customer c one s1) d1 Flight car_flight flight (there_later Flight s (put_customer c none s) (λ q. refl) flight is_flight) in
    let b2 : IsBalanced (put_customer c two s2) = decided_keeps c units Flight flight (put_customer c one s1) second
    (put_customer c two s2) b1 within t2 d2 in
    let customers : s3.customers ≡ s.customers = customers-left_of c units Room room third s2
    ∙ customers-left_of c units Flight flight second s1 ∙ customers-left_of c units Car car first s in
    let unchanged : is_new ≡ false → three ≡ none =
    λ h.
    let n : (ask.is_change first ≡ false) × (ask.is_change second ≡ false)
    × (ask.is_change third ≡ false) = none_changed (ask.is_change first) (ask.is_change second) (ask.is_change third) h in
    unchanged_part units Room room third two n.2 ∙ unchanged_part units Flight flight second one n.1
    ∙ unchanged_part units Car car first none n.0 in
    let all : decide_all c units car flight room (put_customer c none s)
    ≡ (Reserved (record { car = first; flight = second; room = third }), put_customer c three s3) =
    reserved c units car flight room (put_customer c none s) (put_customer c one s1) (put_customer c two s2)
    (put_customer c three s3) first second third d1 d2 d3 in
    let last : KindReply → Customer → ask.SessionProgram = λ third three. ask.put_changed c (customer c s)
    (ask.is_change first || (ask.is_change second || ask.is_change third)) three
    (Answers (Reserved (record { car = first; flight = second; room = third }))) in
    let middle : KindReply → Customer → ask.SessionProgram = λ second two.
    ask.decide c units Room room two
    (λ third three. ask.put_changed c (customer c s) (ask.is_change first || (ask.is_change second || ask.is_change third)) three
    (Answers (Reserved (record { car = first; flight = second; room = third })))) in
    decided_run c units Car car none (λ first one.
    ask.decide c units Flight flight one (λ second two.
    ask.decide c units Room room two (λ third three.
    ask.put_changed c (customer c s) (ask.is_change first || (ask.is_change second || ask.is_change third)) three
    (Answers (Reserved (record { car = first; flight = second; room = third })))))) s (b.queues_within Car) b.next_within
    ∙ decided_run c units Flight flight one middle s1 (b1.queues_within Flight) b1.next_within
    ∙ decided_run c units Room room two last s2 (b2.queues_within Room) b2.next_within
    ∙ customer_put c (customer c s) is_new three end s3 (ap (λ m. get m c) customers) unchanged
    ∙ sym (ap (λ (r : ActionReply × Holdings). Some (r.0, state_of r.1)) all)

place_is : (c units : ℕ) (car flight room : Option (ℕ × Item)) (s : Holdings) → IsBalanced s → AreUnits units → IsThere Car s car
    → IsThere Flight s flight → IsThere Room s room
    → run (ask.reserve_among c units car flight room) (state_of s)
    ≡ Some ((reserve_among c units car flight room s).0, state_of (reserve_among c units car flight room s).1)
place_is c units car flight room s b within is_car is_flight is_room =
    both_ways (is_none car && (is_none flight && is_none room))
    (λ (r : ActionReply × Holdings) (p : ask.SessionProgram). run p (state_of s) ≡ Some (r.0, state_of r.1))
    (λ _. refl)
    (λ _. got_customer c (ask.decide_all c units car flight room) s b.customers_sound
    ∙ placed c units car flight room s b within is_car is_flight is_room)

-- ---- the session

pub session_run : (action : Action) (s : Holdings) → IsAllowed action → IsBalanced s
    → run (ask.session action) (state_of s) ≡ Some ((action_of action s).0, state_of (action_of action s).1)
session_run (Reserve c units asks) s allowed b =
    gathered asks None None None (ask.reserve_among c units) s b.items_sound
    ∙ place_is c units (candidate Car asks s) (candidate Flight asks s) (candidate Room asks s) s b allowed.0 (candidate_there Car asks s)
    (candidate_there Flight asks s) (candidate_there Room asks s)
session_run (Delete c) s allowed b = got_customer c (ask.delete_found c) s b.customers_sound ∙ delete_found_is c (customer c s) s b refl
session_run (Update changes) s allowed b = changed_each changes (λ made. Answers (Updated made)) s b allowed.1
session_run (QueryItem k id) s allowed b = got_item k id (λ o. Answers (item_reply o)) s b.items_sound
session_run (QueryBill c) s allowed b = got_customer c (λ o. Answers (bill_reply o)) s b.customers_sound

-- ---- the laws

some_both : {A B : Type 0} (x y : A × B) → Some x ≡ Some y → (x.0 ≡ y.0) × (x.1 ≡ y.1)
some_both x y e = (ap (λ o. (unwrap_or o x).0) e, ap (λ o. (unwrap_or o x).1) e)

pub ends_as_action : EndsAsAction
ends_as_action action s calls reply allowed b reaches =
    some_both (reply, after_calls calls (state_of s)) ((action_of action s).0, state_of (action_of action s).1)
    (sym (followed_run calls (ask.session action) (Answers reply) (state_of s) reaches.0 reaches.1) ∙ session_run action s allowed b)

pub never_gives_up : NeverGivesUp
never_gives_up action s calls allowed b reaches =
    none-some _ (sym (followed_run calls (ask.session action) GivesUp (state_of s) reaches.0 reaches.1) ∙ session_run action s allowed b)

pub asks_legal_calls : AsksLegalCalls
asks_legal_calls action s calls call next allowed b reaches none =
    none-some _
    (sym (ap (option_and_then (λ r. run (next r.0) r.1)) none)
    ∙ sym (followed_run calls (ask.session action) (Asks call next) (state_of s) reaches.0 reaches.1) ∙ session_run action s allowed b)
