-- The tests by tallies decide what the tests decide.
-- A tally says of each number what its list adds up to there, or the most: one element more adds its own, so a whole list
-- adds the sum. The units of a sound item and the times that are allowed are below the most, so a look-up in the tally
-- answers as the sum does. Where the customers are right each wait has its ticket, so a ticket that some wait has is
-- awaited by its own customer.
use Rattle.std.proofs.Common.{◌≡◌, ℕ, zero, suc, ◌+◌, ◌<◌, ◌≤◌, ◌==◌, ◌&&◌, Bool, true, false, cond, List, [], ◌∷◌, length, Some, None, All}
use Rattle.std.proofs.Common.{refl, sym, ◌∙◌, ap, subst, arith, IsTrue}
use Rattle.std.specs.Prelude.{unwrap_or, is_some, min, fold, nat_lt, nat_le, ◌↔◌}
use Rattle.std.specs.List.{list_any, list_all, count_by, sum_by}
use Rattle.std.specs.Ordering.{nat_cmp}
use Rattle.std.specs.FinMap.{get, remove, empty, entries, get-empty}
use Rattle.std.proofs.lemmas.List.Sums.{sum_by-cons}
use Rattle.std.proofs.lemmas.Option.{same_Some}
use Rattle.std.proofs.lemmas.Bool.{and_parts}
use Rattle.seq_model.proofs.LogicLemmas.{nat_le-true, le-nat_le, nat_lt-true, lt-nat_lt}
use Rattle.vac_model.specs.declared.item.Kind.{Kind}
use Rattle.vac_model.specs.declared.item.Kind.TheVariants.{Car, Flight, Room}
use Rattle.vac_model.specs.declared.item.Item.{Item}
use Rattle.vac_model.specs.declared.item.Wait.{Wait}
use Rattle.vac_model.specs.declared.item.Customer.{Customer}
use Rattle.vac_model.specs.declared.item.Ticket.{Ticket}
use Rattle.vac_model.specs.declared.limits.TheConstants.{AMOUNT_LIMIT, PLACE_LIMIT, TICKET_LIMIT}
use Rattle.vac_model.specs.Holdings.{Holdings, same_kind, of_kind, item, customer, customer_or_new, newcomer, ticket, queue}
use Rattle.vac_model.specs.Actions.{is_of, is_for, places}
use Rattle.vac_model.specs.Balanced.{IsBalanced, units_held, units_booked, times, same_wait, tickets_for, times_queued, times_waiting}
use Rattle.vac_model.specs.Tests.{is_item_sound, are_units, is_item_right, are_items_right, is_booking_right, is_wait_right}
use Rattle.vac_model.specs.Tests.{is_customer_right, are_customers_right, is_ticket_right, are_tickets_right, is_place_right}
use Rattle.vac_model.specs.Tests.{is_queue_right, is_balanced}
use Rattle.vac_model.specs.Tallies.{Tally, MOST, counted, with_more, with_units, with_booking, with_wait, with_awaited, with_ticket}
use Rattle.vac_model.specs.Tallies.{units_tally, had_tally, awaited_tally, queued_tally, had_tallies, queued_tallies, is_item_tallied}
use Rattle.vac_model.specs.Tallies.{are_items_tallied, is_customer_tallied, are_customers_tallied, is_ticket_tallied, are_tickets_tallied}
use Rattle.vac_model.specs.Tallies.{times_tallied, is_place_tallied, is_queue_tallied, is_tallied}
use Rattle.vac_model.proofs.MapLemmas.{eq_both, insert_both, weight_of, remove_weight}
use Rattle.vac_model.proofs.ListLemmas.{some_counted, counted_one}
use Rattle.vac_model.proofs.HoldingLemmas.{same_wait_both, wait_of, ticket_of, ticket_found}
use Rattle.vac_model.proofs.TestLemmas.{each_of, any_counted, count_weaker, counted_at, each_entry, of_each_entry, nothing_weighs}
use Rattle.vac_model.proofs.TestLemmas.{is_eq_, eq_is, balance_tested}

-- ---- tests
bool_alike : (a b : Bool) → (a ≡ true → b ≡ true) → (b ≡ true → a ≡ true) → a ≡ b
bool_alike true b f g = sym (f refl)
bool_alike false true f g = g refl
bool_alike false false f g = refl

and_alike : (a b c : Bool) → (a ≡ true → b ≡ c) → (a && b) ≡ (a && c)
and_alike true b c h = h refl
and_alike false b c h = refl

-- ---- what a tally says
-- of each number this much, or the most
abbrev pub Says : Tally → (ℕ → ℕ) → Type 0
Says t f = (j : ℕ) → counted t j ≡ min (f j) MOST

empty_says : Says empty (λ j. 0)
empty_says j = ap (λ o. unwrap_or o 0) (get-empty nat_cmp j)

more_says : (id n : ℕ) (t : Tally) (f : ℕ → ℕ) → Says t f → Says (with_more id n t) (λ j. f j + cond (id == j) n 0)
more_says id n t f h j =
    insert_both t id (min (counted t id + n) MOST) j (λ o. unwrap_or o 0 ≡ min (f j + cond (id == j) n 0) MOST)
    (λ e. eq_both id j (λ b. min (counted t id + n) MOST ≡ min (f j + cond b n 0) MOST)
    (λ _. let s : counted t id ≡ min (f id) MOST = h id in let g : f id ≡ f j = ap f e in omega (arith, s, g))
    (λ ne. absurd (ne e)))
    (λ ne. eq_both id j (λ b. counted t j ≡ min (f j + cond b n 0) MOST)
    (λ e. absurd (ne e))
    (λ _. let s : counted t j ≡ min (f j) MOST = h j in omega (arith, s)))

-- where it is only added in one case
picked_says : (c : Bool) (id n : ℕ) (t : Tally) (f : ℕ → ℕ) → Says t f
    → Says (cond c (with_more id n t) t) (λ j. f j + cond (c && (id == j)) n 0)
picked_says true id n t f h = more_says id n t f h
picked_says false id n t f h = λ j. let s : counted t j ≡ min (f j) MOST = h j in omega (arith, s)

fold_says : {E : Type 0} (g : Tally → E → Tally) (w : ℕ → E → ℕ)
    → ((e : E) (t : Tally) (f : ℕ → ℕ) → Says t f → Says (g t e) (λ j. f j + w j e))
    → (es : List E) (t : Tally) (f : ℕ → ℕ) → Says t f → Says (fold g t es) (λ j. f j + sum_by (w j) es)
fold_says g w each [] t f h = λ j. let s : counted t j ≡ min (f j) MOST = h j in omega (arith, s)
fold_says g w each (e ∷ es) t f h = λ j.
    let r : counted (fold g (g t e) es) j ≡ min (f j + w j e + sum_by (w j) es) MOST =
    fold_says g w each es (g t e) (λ i. f i + w i e) (each e t f h) j in
    let c : sum_by (w j) (e ∷ es) ≡ w j e + sum_by (w j) es = sum_by-cons (w j) e es in
    omega (arith, r, c)

units_say : (k : Kind) (s : Holdings) → Says (units_tally k s) (λ j. 0 + units_booked k j s)
units_say k s =
    fold_says {E = ℕ × Customer} (λ t e. fold (with_units k) t e.1.bookings) (λ j e. units_held k j e.1.bookings)
    (λ e t f h. fold_says (with_units k) (λ j b. cond (is_of k j b) b.units 0)
    (λ b u g i. picked_says (same_kind b.kind k) b.id b.units u g i) e.1.bookings t f h)
    (entries s.customers) empty (λ j. 0) empty_says

had_says : (k : Kind) (who : Customer)
    → Says (had_tally k who) (λ j. 0 + count_by (is_of k j) who.bookings + count_by (is_for k j) who.waits)
had_says k who =
    fold_says (with_wait k) (λ j w. cond (is_for k j w) 1 0)
    (λ w u g i. picked_says (same_kind w.kind k) w.id 1 u g i) who.waits
    (fold (with_booking k) empty who.bookings) (λ j. 0 + count_by (is_of k j) who.bookings)
    (fold_says (with_booking k) (λ j b. cond (is_of k j b) 1 0)
    (λ b u g i. picked_says (same_kind b.kind k) b.id 1 u g i) who.bookings empty (λ j. 0) empty_says)

-- how many waits have the ticket
abbrev pub times_awaited : ℕ → Customer → ℕ
times_awaited t who = count_by (λ w. w.ticket == t) who.waits

awaited_says : (s : Holdings) → Says (awaited_tally s) (λ j. 0 + sum_by (λ e. times_awaited j e.1) (entries s.customers))
awaited_says s =
    fold_says {E = ℕ × Customer} (λ t e. fold with_awaited t e.1.waits) (λ j e. times_awaited j e.1)
    (λ e t f h. fold_says with_awaited (λ j w. cond (w.ticket == j) 1 0)
    (λ w u g i. more_says w.ticket 1 u g i) e.1.waits t f h)
    (entries s.customers) empty (λ j. 0) empty_says

queued_says : (k : Kind) (s : Holdings) → Says (queued_tally k s) (λ j. 0 + times_queued j k s)
queued_says k s =
    fold_says with_ticket (λ j x. cond (x == j) 1 0) (λ x u g i. more_says x 1 u g i) (queue k s).tickets empty (λ j. 0) empty_says

had_of : (k : Kind) (who : Customer) → of_kind k (had_tallies who) ≡ had_tally k who
had_of Car who = refl
had_of Flight who = refl
had_of Room who = refl

queued_of : (k : Kind) (s : Holdings) → of_kind k (queued_tallies s) ≡ queued_tally k s
queued_of Car s = refl
queued_of Flight s = refl
queued_of Room s = refl

-- ---- items
item_alike : (k : Kind) (s : Holdings) (e : ℕ × Item) → is_item_tallied (units_tally k s) e ≡ is_item_right k s e
item_alike k s e =
    and_alike (is_item_sound e.1) (e.1.used == counted (units_tally k s) e.0) (e.1.used == units_booked k e.0 s) (λ sound.
    let h1 = and_parts (e.1.used + e.1.free == e.1.total) _ sound in
    let all : e.1.used + e.1.free ≡ e.1.total = is_eq_ _ _ h1.0 in
    let few : e.1.total ≤ AMOUNT_LIMIT = nat_le-true _ _ (and_parts (nat_le e.1.total AMOUNT_LIMIT) _ h1.1).0 in
    let says : counted (units_tally k s) e.0 ≡ min (0 + units_booked k e.0 s) MOST = units_say k s e.0 in
    bool_alike _ _
    (λ h. let g : e.1.used ≡ counted (units_tally k s) e.0 = is_eq_ _ _ h in eq_is _ _ (omega (arith, all, few, says, g)))
    (λ h. let g : e.1.used ≡ units_booked k e.0 s = is_eq_ _ _ h in eq_is _ _ (omega (arith, all, few, says, g))))

items_alike : (k : Kind) (s : Holdings) → are_items_tallied k s ≡ are_items_right k s
items_alike k s = λ j. list_all (λ e. item_alike k s e j) (entries (of_kind k s.items))

-- ---- customers
few_alike : (a n : ℕ) → a ≡ min (0 + n) MOST → nat_le a 1 ≡ nat_le n 1
few_alike a n says =
    bool_alike _ _
    (λ h. let g : a ≤ 1 = nat_le-true a 1 h in le-nat_le n 1 (omega (arith, says, g)))
    (λ h. let g : n ≤ 1 = nat_le-true n 1 h in le-nat_le a 1 (omega (arith, says, g)))

once_alike : (k : Kind) (id : ℕ) (who : Customer) → nat_le (counted (of_kind k (had_tallies who)) id) 1 ≡ nat_le (times who k id) 1
once_alike k id who =
    ap (λ t. nat_le (counted t id) 1) (had_of k who)
    ∙ few_alike (counted (had_tally k who) id) (times who k id)
    (let says : counted (had_tally k who) id ≡ min (0 + count_by (is_of k id) who.bookings + count_by (is_for k id) who.waits) MOST =
    had_says k who id in omega (arith, says))

customer_alike : (s : Holdings) (e : ℕ × Customer) → is_customer_tallied s e ≡ is_customer_right s e
customer_alike s e = λ j.
    nat_le (places e.1) PLACE_LIMIT
    && (list_all (λ b. once_alike b.kind b.id e.1 j && (are_units b.units && (nat_le b.price AMOUNT_LIMIT && is_some (item b.kind b.id s))))
    e.1.bookings
    && list_all (λ w. once_alike w.kind w.id e.1 j && (are_units w.units && (tickets_for e.0 w (ticket w.ticket s) == 1))) e.1.waits)

customers_alike : (s : Holdings) → are_customers_tallied s ≡ are_customers_right s
customers_alike s = λ j. list_all (λ e. customer_alike s e j) (entries s.customers)

-- ---- tickets
-- of no number there is more than nothing exactly where the sum is
some_alike : (a n : ℕ) → a ≡ min (0 + n) MOST → nat_lt 0 a ≡ nat_lt 0 n
some_alike a n says =
    bool_alike _ _
    (λ h. let g : 0 < a = nat_lt-true 0 a h in lt-nat_lt 0 n (omega (arith, says, g)))
    (λ h. let g : 0 < n = nat_lt-true 0 n h in lt-nat_lt 0 a (omega (arith, says, g)))

any_alike : {X : Type 0} (p : X → Bool) (xs : List X) → nat_lt 0 (count_by p xs) ≡ list_any p xs
any_alike p xs =
    bool_alike _ _
    (λ h. some_counted p xs (nat_lt-true 0 (count_by p xs) h))
    (λ h. lt-nat_lt 0 (count_by p xs) (any_counted p xs h))

module _ (s : Holdings) (customers_right : are_customers_right s ≡ true) (t : ℕ) (x : Ticket) (there : ticket t s ≡ Some x) where
  abbrev own_waits : List Wait
  own_waits = (customer_or_new x.customer s).waits

  -- a wait of this ticket is one of the ticket's customer, and the one that the ticket stands for
  wait_is_own : (c : ℕ) (who : Customer) → customer c s ≡ Some who → 0 < times_awaited t who
      → list_any (same_wait (wait_of t x)) own_waits ≡ true
  wait_is_own c who e some =
      let h = and_parts (nat_le (places who) PLACE_LIMIT) _ (each_entry (is_customer_right s) s.customers customers_right c who e) in
      let h1 = and_parts (list_all (is_booking_right s who) who.bookings) (list_all (is_wait_right s c who) who.waits) h.1 in
      let rights : All (λ w. is_wait_right s c who w ≡ true) who.waits = each_of (is_wait_right s c who) who.waits h1.1 in
      let own : All (λ w. 0 < count_by (same_wait w) who.waits) who.waits =
      counted_at same_wait (λ w. same_wait_both w w (λ b. b ≡ true) (λ _. refl) (λ n. absurd (n refl))) who.waits in
      let r = counted_one (λ w. w.ticket == t) (λ w. (is_wait_right s c who w ≡ true) × (0 < count_by (same_wait w) who.waits))
      who.waits some
      (λ i d lt. (rights i d lt, own i d lt)) in
      let w : Wait = r.0 in
      let y = and_parts (nat_le (times who w.kind w.id) 1) _ r.2.0 in
      let z = and_parts (are_units w.units) (tickets_for c w (ticket w.ticket s) == 1) y.1 in
      let one : tickets_for c w (ticket w.ticket s) ≡ 1 = is_eq_ _ _ z.1 in
      let numbered : w.ticket ≡ t = is_eq_ _ _ r.1 in
      let is : ticket w.ticket s ≡ Some (ticket_of c w) = ticket_found c w (ticket w.ticket s) (omega (arith, one)) in
      let same : x ≡ ticket_of c w = same_Some _ _ (sym there ∙ ap (λ n. ticket n s) (sym numbered) ∙ is) in
      let it : wait_of t x ≡ w = λ j. record { kind = (same j).kind; id = (same j).id; units = (same j).units; ticket = sym numbered j } in
      let mine : own_waits ≡ who.waits = ap (λ y. (customer_or_new y.customer s).waits) same ∙ ap (λ o. (unwrap_or o newcomer).waits) e in
      (λ j. list_any (same_wait (it j)) (mine j)) ∙ some_counted (same_wait w) who.waits r.2.1

  awaited_is_own : 0 < sum_by (λ (e : ℕ × Customer). times_awaited t e.1) (entries s.customers)
      → list_any (same_wait (wait_of t x)) own_waits ≡ true
  awaited_is_own some =
      elim (list_any (same_wait (wait_of t x)) own_waits) as
      (λ b. list_any (same_wait (wait_of t x)) own_waits ≡ b → b ≡ true) [
        | true ↦ λ _. refl
        | false ↦ λ no.
            let none : sum_by (λ (e : ℕ × Customer). times_awaited t e.1) (entries s.customers) ≡ 0 =
            nothing_weighs (λ (e : ℕ × Customer). times_awaited t e.1) (entries s.customers)
            (of_each_entry (λ (e : ℕ × Customer). times_awaited t e.1 == 0) s.customers (λ c who e.
            elim (times_awaited t who) as (λ n. times_awaited t who ≡ n → (n == 0) ≡ true) [
              | zero ↦ λ _. refl
              | suc n ↦ λ f. absurd (let g : false ≡ true = sym no ∙ wait_is_own c who e (omega (arith, f)) in cc)
            ] refl)) in
            absurd (omega (arith, some, none))
      ] refl

  own_is_awaited : list_any (same_wait (wait_of t x)) own_waits ≡ true
      → 0 < sum_by (λ (e : ℕ × Customer). times_awaited t e.1) (entries s.customers)
  own_is_awaited h =
      let some : 0 < count_by (same_wait (wait_of t x)) own_waits = any_counted (same_wait (wait_of t x)) own_waits h in
      let fewer : count_by (same_wait (wait_of t x)) own_waits ≤ count_by (λ w. w.ticket == t) own_waits =
      count_weaker (λ w. w.ticket == t) (same_wait (wait_of t x)) (λ w g. (and_parts (w.ticket == t) _ g).0) own_waits in
      let whole : sum_by (λ (e : ℕ × Customer). times_awaited t e.1) (entries (remove s.customers x.customer))
      + weight_of (times_awaited t) (get s.customers x.customer)
      ≡ sum_by (λ (e : ℕ × Customer). times_awaited t e.1) (entries s.customers) =
      remove_weight (times_awaited t) s.customers x.customer in
      elim (customer x.customer s) as (λ o. customer x.customer s ≡ o
      → 0 < sum_by (λ (e : ℕ × Customer). times_awaited t e.1) (entries s.customers)) [
        | None ↦ λ e.
            let none : count_by (λ w. w.ticket == t) own_waits ≡ 0 =
            ap (λ o. count_by (λ w. w.ticket == t) (unwrap_or o newcomer).waits) e in
            absurd (omega (arith, some, fewer, none))
        | Some who ↦ λ e.
            let own : count_by (λ w. w.ticket == t) own_waits ≡ times_awaited t who =
            ap (λ o. count_by (λ w. w.ticket == t) (unwrap_or o newcomer).waits) e in
            let weighs : weight_of (times_awaited t) (get s.customers x.customer) ≡ times_awaited t who =
            ap (weight_of (times_awaited t)) e in
            omega (arith, some, fewer, own, weighs, whole)
      ] refl

  ticket_alike : is_ticket_tallied (awaited_tally s) (queued_tallies s) (t, x) ≡ is_ticket_right s (t, x)
  ticket_alike =
      let waits : nat_lt 0 (counted (awaited_tally s) t) ≡ list_any (same_wait (wait_of t x)) own_waits =
      some_alike (counted (awaited_tally s) t) (sum_by (λ (e : ℕ × Customer). times_awaited t e.1) (entries s.customers)) (awaited_says s t)
      ∙ bool_alike _ _ (λ h. awaited_is_own (nat_lt-true 0 _ h)) (λ h. lt-nat_lt 0 _ (own_is_awaited h)) in
      let stands : nat_lt 0 (counted (of_kind x.kind (queued_tallies s)) t) ≡ list_any (λ y. y == t) (queue x.kind s).tickets =
      ap (λ u. nat_lt 0 (counted u t)) (queued_of x.kind s)
      ∙ some_alike (counted (queued_tally x.kind s) t) (times_queued t x.kind s) (queued_says x.kind s t)
      ∙ any_alike (λ y. y == t) (queue x.kind s).tickets in
      λ j. waits j && stands j

tickets_alike : (s : Holdings) → are_customers_right s ≡ true → are_tickets_tallied s ≡ are_tickets_right s
tickets_alike s right =
    bool_alike _ _
    (λ h. of_each_entry (is_ticket_right s) s.tickets (λ t x e. sym (ticket_alike s right t x e)
    ∙ each_entry (is_ticket_tallied (awaited_tally s) (queued_tallies s)) s.tickets h t x e))
    (λ h. of_each_entry (is_ticket_tallied (awaited_tally s) (queued_tallies s)) s.tickets (λ t x e. ticket_alike s right t x e
    ∙ each_entry (is_ticket_right s) s.tickets h t x e))

-- ---- queues
place_alike : (s : Holdings) (t : ℕ) → is_place_tallied (queued_tallies s) s.next t ≡ is_place_right s t
place_alike s t =
    let car : counted (queued_tally Car s) t ≡ min (0 + times_queued t Car s) MOST = queued_says Car s t in
    let flight : counted (queued_tally Flight s) t ≡ min (0 + times_queued t Flight s) MOST = queued_says Flight s t in
    let room : counted (queued_tally Room s) t ≡ min (0 + times_queued t Room s) MOST = queued_says Room s t in
    let few : nat_le (times_tallied (queued_tallies s) t) 1 ≡ nat_le (times_waiting t s) 1 =
    few_alike (times_tallied (queued_tallies s) t) (times_waiting t s) (omega (arith, car, flight, room)) in
    λ j. few j && nat_lt t s.next

queue_alike : (k : Kind) (s : Holdings) → is_queue_tallied k s ≡ is_queue_right k s
queue_alike k s = λ j.
    nat_le ((queue k s).head + length (queue k s).tickets) s.next && list_all (λ t. place_alike s t j) (queue k s).tickets

-- ---- the tables
tallied_alike : (s : Holdings) → is_tallied s ≡ is_balanced s
tallied_alike s =
    (λ j. nat_le s.next TICKET_LIMIT && (items_alike Car s j && (items_alike Flight s j && (items_alike Room s j
    && (customers_alike s j && (are_tickets_tallied s && (queue_alike Car s j && (queue_alike Flight s j && queue_alike Room s j))))))))
    ∙ ap (λ b. nat_le s.next TICKET_LIMIT && (are_items_right Car s && (are_items_right Flight s && (are_items_right Room s && b))))
    (and_alike (are_customers_right s) _ _ (λ right. λ j. tickets_alike s right j
    && (is_queue_right Car s && (is_queue_right Flight s && is_queue_right Room s))))

pub tally_decides : (s : Holdings) → IsTrue (is_tallied s) ↔ IsBalanced s
tally_decides s = subst (λ (b : Bool). IsTrue b ↔ IsBalanced s) (sym (tallied_alike s)) (balance_tested s)
