-- What a call on the state that holds the tables answers and leaves.
use Rattle.std.proofs.Common.{◌≡◌, ℕ, ◌+◌, ◌<◌, true, false, cond, List, [], ◌∷◌, ◌++◌, length, Option, Some, None, refl, sym, ◌∙◌, ap}
use Rattle.std.proofs.Common.{arith}
use Rattle.std.specs.Prelude.{map, option_map, nat_lt, slice_set, unwrap_or}
use Rattle.std.specs.Ordering.{nat_cmp, eq_by_cmp}
use Rattle.std.specs.Cmp.{nat_cmp_total}
use Rattle.std.specs.FinMap.{FinMap, empty, entries, get-empty, find, get, insert, remove, get-from_entries, get-entries, get-insert}
use Rattle.std.specs.FinMap.{get-remove, same_map, nat_cmp-IsAntisymmetric}
use Rattle.std.proofs.lemmas.Bool.Decides.{nat_tests}
use Rattle.seq_model.specs.declared.call.Reply.{Reply}
use Rattle.seq_model.specs.declared.call.Reply.TheVariants.{Done, Full, Found}
use Rattle.seq_model.specs.declared.held.Held.TheVariants.{Queue}
use Rattle.seq_model.specs.declared.limits.TheConstants.{INDEX_LIMIT}
use Rattle.seq_model.specs.Calls.{value_reply, peek_reply, dequeue_call, enqueue_call}
use Rattle.seq_model.specs.Contents.{Contents}
use Rattle.seq_model.specs.Queues.{first_of, rest_of}
use Rattle.seq_model.specs.Entries.{inserts}
use Rattle.seq_model.proofs.EntryLemmas.{inserts_all}
use Rattle.vac_model.specs.declared.item.Kind.{Kind}
use Rattle.vac_model.specs.declared.item.Kind.TheVariants.{Car, Flight, Room}
use Rattle.vac_model.specs.declared.item.Item.{Item}
use Rattle.vac_model.specs.declared.item.Customer.{Customer}
use Rattle.vac_model.specs.declared.item.Ticket.{Ticket}
use Rattle.vac_model.specs.Holdings.{Holdings, item, put_item, remove_item, customer, put_customer, remove_customer, ticket, remove_ticket}
use Rattle.vac_model.specs.Holdings.{queue, put_queue}
use Rattle.vac_model.specs.Actions.{take_off, give_ticket}
use Rattle.client_sessions.specs.declared.entry.Entry.{Entry}
use Rattle.client_sessions.specs.declared.entry.Entry.TheVariants.{Item as Stock, Customer as Client, Ticket as Slip}
use Rattle.client_sessions.specs.Holding.{ArePutIn, Entries, as_entries, holding, stock_of, state_of}
use Rattle.seq_model.specs.Programs.{run}
use Rattle.client_sessions.specs.Sessions as ask

module _ {X : Type 0} (f : X → Entry) where
  find_entry : (q : ℕ) (es : List (ℕ × X)) → find nat_cmp q (map (λ e. (e.0, f e.1)) es) ≡ option_map f (find nat_cmp q es)
  find_entry q [] = refl
  find_entry q (e ∷ es) =
      elim (eq_by_cmp nat_cmp q e.0) as
      (λ b. cond b (Some (f e.1)) (find nat_cmp q (map (λ e. (e.0, f e.1)) es))
      ≡ option_map f (cond b (Some e.1) (find nat_cmp q es))) [
        | true ↦ refl
        | false ↦ find_entry q es
      ]

  pub get_as : (m : FinMap nat_cmp X) (q : ℕ) → get (as_entries f m) q ≡ option_map f (get m q)
  get_as m q = get-from_entries nat_cmp_total (map (λ e. (e.0, f e.1)) (entries m)) q ∙ find_entry q (entries m)
      ∙ ap (option_map f) (sym (get-entries m q))

  pub insert_as : (m : FinMap nat_cmp X) (k : ℕ) (v : X) → insert (as_entries f m) k (f v) ≡ as_entries f (insert m k v)
  insert_as m k v =
      same_map nat_cmp_total nat_cmp-IsAntisymmetric _ _ (λ q.
      get-insert nat_cmp_total (as_entries f m) k (f v) q
      ∙ (elim (eq_by_cmp nat_cmp q k) as
      (λ b. cond b (Some (f v)) (get (as_entries f m) q)
      ≡ option_map f (cond b (Some v) (get m q))) [ true ↦ refl | false ↦ get_as m q ])
      ∙ ap (option_map f) (sym (get-insert nat_cmp_total m k v q))
      ∙ sym (get_as (insert m k v) q))

  pub remove_as : (m : FinMap nat_cmp X) (k : ℕ) → remove (as_entries f m) k ≡ as_entries f (remove m k)
  remove_as m k =
      same_map nat_cmp_total nat_cmp-IsAntisymmetric _ _ (λ q.
      get-remove nat_cmp_total (as_entries f m) k q
      ∙ (elim (eq_by_cmp nat_cmp q k) as
      (λ b. cond b None (get (as_entries f m) q) ≡ option_map f (cond b None (get m q))) [ true ↦ refl | false ↦ get_as m q ])
      ∙ ap (option_map f) (sym (get-remove nat_cmp_total m k q))
      ∙ sym (get_as (remove m k) q))

  pub empty_as : empty ≡ as_entries f empty
  empty_as =
      same_map nat_cmp_total nat_cmp-IsAntisymmetric _ _ (λ q.
      get-empty nat_cmp q ∙ sym (get_as empty q ∙ ap (option_map f) (get-empty nat_cmp q)))

  pub put_none : (m : FinMap nat_cmp X) (held : Entries) (left : List (ℕ × X)) → held ≡ empty → left ≡ entries m → ArePutIn f m held left
  put_none m held left e i =
      record {
        part = empty;
        are = e ∙ empty_as;
        rest = ap (inserts empty) i ∙ inserts_all m;
      }

  pub put_one : (m : FinMap nat_cmp X) (held new : Entries) (k : ℕ) (v : X) (before left : List (ℕ × X))
      → ArePutIn f m held before → before ≡ (k, v) ∷ left → new ≡ insert held k (f v) → ArePutIn f m new left
  put_one m held new k v before left h i e =
      record {
        part = insert h.part k v;
        are = e ∙ ap (λ t. insert t k (f v)) h.are ∙ insert_as h.part k v;
        rest = sym (ap (inserts h.part) i) ∙ h.rest;
      }

  pub put_all : (m : FinMap nat_cmp X) (held : Entries) (left : List (ℕ × X)) → ArePutIn f m held left → left ≡ [] → held ≡ as_entries f m
  put_all m held left h e = h.are ∙ ap (as_entries f) (sym (ap (inserts h.part) e) ∙ h.rest)

-- ---- each call, run on the state that holds tables

pub run_get_item : (k : Kind) (id : ℕ) (next : Option Item → ask.SessionProgram) (s : Holdings)
    → run (ask.get_item k id next) (state_of s) ≡ run (ask.item_in (value_reply (option_map Stock (item k id s))) next) (state_of s)
run_get_item Car id next s = ap (λ o. run (ask.item_in (value_reply o) next) (state_of s)) (get_as Stock s.items.car id)
run_get_item Flight id next s = ap (λ o. run (ask.item_in (value_reply o) next) (state_of s)) (get_as Stock s.items.flight id)
run_get_item Room id next s = ap (λ o. run (ask.item_in (value_reply o) next) (state_of s)) (get_as Stock s.items.room id)

-- the state with these entries
abbrev with_car : Holdings → Entries → Contents Entry
with_car s m = holding s.next (record (stock_of s) { car = m }) (as_entries Client s.customers) (as_entries Slip s.tickets) s.waiting

abbrev with_flight : Holdings → Entries → Contents Entry
with_flight s m = holding s.next (record (stock_of s) { flight = m }) (as_entries Client s.customers) (as_entries Slip s.tickets) s.waiting

abbrev with_room : Holdings → Entries → Contents Entry
with_room s m = holding s.next (record (stock_of s) { room = m }) (as_entries Client s.customers) (as_entries Slip s.tickets) s.waiting

abbrev with_customers : Holdings → Entries → Contents Entry
with_customers s m = holding s.next (stock_of s) m (as_entries Slip s.tickets) s.waiting

abbrev with_tickets : Holdings → Entries → Contents Entry
with_tickets s m = holding s.next (stock_of s) (as_entries Client s.customers) m s.waiting

pub run_put_item : (k : Kind) (id : ℕ) (i : Item) (next : ask.SessionProgram) (s : Holdings)
    → run (ask.put_item k id i next) (state_of s) ≡ run next (state_of (put_item k id i s))
run_put_item Car id i next s = ap (λ m. run next (with_car s m)) (insert_as Stock s.items.car id i)
run_put_item Flight id i next s = ap (λ m. run next (with_flight s m)) (insert_as Stock s.items.flight id i)
run_put_item Room id i next s = ap (λ m. run next (with_room s m)) (insert_as Stock s.items.room id i)

pub run_remove_item : (k : Kind) (id : ℕ) (next : ask.SessionProgram) (s : Holdings)
    → run (ask.remove_item k id next) (state_of s) ≡ run next (state_of (remove_item k id s))
run_remove_item Car id next s = ap (λ m. run next (with_car s m)) (remove_as Stock s.items.car id)
run_remove_item Flight id next s = ap (λ m. run next (with_flight s m)) (remove_as Stock s.items.flight id)
run_remove_item Room id next s = ap (λ m. run next (with_room s m)) (remove_as Stock s.items.room id)

pub run_get_customer : (c : ℕ) (next : Option Customer → ask.SessionProgram) (s : Holdings)
    → run (ask.get_customer c next) (state_of s) ≡ run (ask.customer_in (value_reply (option_map Client (customer c s))) next) (state_of s)
run_get_customer c next s = ap (λ o. run (ask.customer_in (value_reply o) next) (state_of s)) (get_as Client s.customers c)

pub run_put_customer : (c : ℕ) (who : Customer) (next : ask.SessionProgram) (s : Holdings)
    → run (ask.put_customer c who next) (state_of s) ≡ run next (state_of (put_customer c who s))
run_put_customer c who next s = ap (λ m. run next (with_customers s m)) (insert_as Client s.customers c who)

pub run_remove_customer : (c : ℕ) (next : ask.SessionProgram) (s : Holdings)
    → run (ask.remove_customer c next) (state_of s) ≡ run next (state_of (remove_customer c s))
run_remove_customer c next s = ap (λ m. run next (with_customers s m)) (remove_as Client s.customers c)

ticket_found : (o : Option Ticket) (next : Option Ticket → ask.SessionProgram)
    → ask.ticket_in (value_reply (option_map Slip o)) next ≡ next o
ticket_found None next = refl
ticket_found (Some x) next = refl

pub got_ticket : (t : ℕ) (next : Option Ticket → ask.SessionProgram) (s : Holdings)
    → run (ask.get_ticket t next) (state_of s) ≡ run (next (ticket t s)) (state_of s)
got_ticket t next s = ap (λ o. run (ask.ticket_in (value_reply o) next) (state_of s)) (get_as Slip s.tickets t)
    ∙ ap (λ p. run p (state_of s)) (ticket_found (ticket t s) next)

pub run_remove_ticket : (t : ℕ) (next : ask.SessionProgram) (s : Holdings)
    → run (ask.remove_ticket t next) (state_of s) ≡ run next (state_of (remove_ticket t s))
run_remove_ticket t next s = ap (λ m. run next (with_tickets s m)) (remove_as Slip s.tickets t)

-- ---- the queues

first_found : (ts : List ℕ) (next : Option ℕ → ask.SessionProgram) → ask.first_in (peek_reply ts) next ≡ next (first_of ts)
first_found [] next = refl
first_found (t ∷ ts) next = refl

pub got_first : (k : Kind) (next : Option ℕ → ask.SessionProgram) (s : Holdings)
    → run (ask.peek k next) (state_of s) ≡ run (next (first_of (queue k s).tickets)) (state_of s)
got_first Car next s = ap (λ p. run p (state_of s)) (first_found s.waiting.car.tickets next)
got_first Flight next s = ap (λ p. run p (state_of s)) (first_found s.waiting.flight.tickets next)
got_first Room next s = ap (λ p. run p (state_of s)) (first_found s.waiting.room.tickets next)

abbrev Queued : Type 0
Queued = Reply Entry × ℕ × List ℕ

dequeued : (head : ℕ) (ts : List ℕ) (t : ℕ) → first_of ts ≡ Some t → dequeue_call {V = Entry} head ts ≡ (Found t, head + 1, rest_of ts)
dequeued head [] t e = absurd (let f : ◌≡◌ {A = Option ℕ} None (Some t) = e in cc)
dequeued head (x ∷ ts) t e = let same : x ≡ t = ap (λ o. unwrap_or o x) e in (λ j. (Found (same j), head + 1, ts))

abbrev with_queue : ℕ → Holdings → Queued → Contents Entry
with_queue place s r = record (state_of s) { held = slice_set (state_of s).held place (Queue r.1 r.2) }

pub run_dequeue : (k : Kind) (t : ℕ) (next : ask.SessionProgram) (s : Holdings) → first_of (queue k s).tickets ≡ Some t
    → run (ask.dequeue k next) (state_of s) ≡ run next (state_of (take_off k s))
run_dequeue Car t next s e = ap (λ r. run next (with_queue 5 s r)) (dequeued s.waiting.car.head s.waiting.car.tickets t e)
run_dequeue Flight t next s e = ap (λ r. run next (with_queue 6 s r)) (dequeued s.waiting.flight.head s.waiting.flight.tickets t e)
run_dequeue Room t next s e = ap (λ r. run next (with_queue 7 s r)) (dequeued s.waiting.room.head s.waiting.room.tickets t e)

enqueued : (head : ℕ) (ts : List ℕ) (t : ℕ) → head + length ts < INDEX_LIMIT
    → enqueue_call {V = Entry} t head ts ≡ (Done, head, ts ++ t ∷ [])
enqueued head ts t lt =
    let yes : nat_lt (head + length ts) INDEX_LIMIT ≡ true = grind (arith, nat_tests) in
    ap (λ b. cond {A = Queued} b (Done, head, ts ++ t ∷ []) (Full, head, ts)) yes

-- the queue with one ticket more
abbrev put_line : Kind → ℕ → Holdings → Holdings
put_line k t s = put_queue k (record (queue k s) { tickets = (queue k s).tickets ++ t ∷ [] }) s

run_enqueue : (k : Kind) (t : ℕ) (next : ask.SessionProgram) (s : Holdings) → (queue k s).head + length (queue k s).tickets < INDEX_LIMIT
    → run (ask.enqueue k t next) (state_of s) ≡ run next (state_of (put_line k t s))
run_enqueue Car t next s lt = ap (λ r. run next (with_queue 5 s r)) (enqueued s.waiting.car.head s.waiting.car.tickets t lt)
run_enqueue Flight t next s lt = ap (λ r. run next (with_queue 6 s r)) (enqueued s.waiting.flight.head s.waiting.flight.tickets t lt)
run_enqueue Room t next s lt = ap (λ r. run next (with_queue 7 s r)) (enqueued s.waiting.room.head s.waiting.room.tickets t lt)

-- the next ticket is given out
pub run_give_ticket : (c units : ℕ) (k : Kind) (id : ℕ) (next : ask.SessionProgram) (s : Holdings)
    → (queue k s).head + length (queue k s).tickets < INDEX_LIMIT
    → run (ask.write_next (s.next + 1)
    (ask.put_ticket s.next (record { customer = c; kind = k; id = id; units = units }) (ask.enqueue k s.next next))) (state_of s)
    ≡ run next (state_of (give_ticket c units k id s))
run_give_ticket c units k id next s lt =
    let x : Ticket = record { customer = c; kind = k; id = id; units = units } in
    let t : Holdings = record s { tickets = insert s.tickets s.next x; next = s.next + 1 } in
    ap (λ m. run (ask.enqueue k s.next next) (holding (s.next + 1) (stock_of s) (as_entries Client s.customers) m s.waiting))
    (insert_as Slip s.tickets s.next x)
    ∙ run_enqueue k s.next next t lt
