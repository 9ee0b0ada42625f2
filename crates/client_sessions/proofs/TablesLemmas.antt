-- That tables can be read from their state. The values among entries of one kind, put in one after another, give the same map of entries at
-- each step: so a map whose entries are all of one kind is that of the values among them. Entries that were made of values are all of their
-- kind, since a map keeps what was put in, and a look-up distinguishes the values: so those among them are those that they were made of.
use Rattle.std.proofs.Common.{◌≡◌, ℕ, ◌<◌, ◌≤◌, Bool, true, false, cond, ◌&&◌, List, [], ◌∷◌, length, get_or, Option, Some, None, Result}
use Rattle.std.proofs.Common.{zero, suc, Ok, Err, refl, sym, ◌∙◌, ap, subst, arith}
use Rattle.std.specs.Prelude.{is_some, map, option_map, option_and_then, unwrap_or, IfOk, IfErr}
use Rattle.std.specs.Result.{IsErrAnd}
use Rattle.std.specs.List.{All, cons_option, list_all}
use Rattle.std.specs.Ordering.{nat_cmp}
use Rattle.std.specs.Cmp.{nat_cmp_total}
use Rattle.std.specs.FinMap.{FinMap, empty, entries, from_entries, get, insert, len-empty, len-entries, entries-insert, put, same_map}
use Rattle.std.specs.FinMap.{nat_cmp-IsAntisymmetric}
use Rattle.std.specs.FinMap.Entries.{by_order}
use Rattle.std.proofs.lemmas.Bool.{and_parts}
use Rattle.seq_model.specs.Entries.{inserts}
use Rattle.seq_model.proofs.EntryLemmas.{by_cases, inserts_all}
use Rattle.seq_model.specs.Calls.{IsRefusal, IsWithinLimits}
use Rattle.seq_model.specs.Contents.{Contents}
use Rattle.seq_model.specs.declared.refusal.Refusal.{Refusal}
use Rattle.seq_model.specs.declared.refusal.Refusal.TheVariants.{NoSuch, Memory as OutOfMemory}
use Rattle.seq_model.specs.declared.held.Held.{Held}
use Rattle.seq_model.specs.declared.held.Held.TheVariants.{Map, Bag, Pq, Queue}
use Rattle.vac_model.specs.declared.item.Kind.TheVariants.{Car, Flight, Room}
use Rattle.vac_model.specs.declared.item.Item.{Item}
use Rattle.vac_model.specs.declared.item.Customer.{Customer}
use Rattle.vac_model.specs.declared.item.Ticket.{Ticket}
use Rattle.vac_model.specs.declared.queue.Queue.{Queue as Line}
use Rattle.vac_model.specs.Holdings.{Holdings}
use Rattle.client_sessions.specs.declared.entry.Entry.{Entry}
use Rattle.client_sessions.specs.declared.entry.Entry.TheVariants.{Item as Stock, Customer as Client, Ticket as Slip}
use Rattle.client_sessions.specs.Holding.{Entries, HaveIndexes, HoldsTables, as_entries, state_of}
use Rattle.client_sessions.specs.Parts.{among, are_maps, are_queues, customer_of, is_map_of, is_queue, item_of, kept, line_of, lines_of}
use Rattle.client_sessions.specs.Parts.{stock_among, tables_held, tables_in, ticket_of}
use Rattle.client_sessions.specs.Refusals.{IsNoneSuch}
use Rattle.client_sessions.proofs.HoldingLemmas.{empty_as, get_as, insert_as}

no_length : {A : Type 0} (es : List A) → length es ≡ 0 → es ≡ []
no_length [] e = refl
no_length (x ∷ es) e = absurd (omega arith)

are_both : (a b : Bool) → a ≡ true → b ≡ true → a && b ≡ true
are_both a b e i = ap (λ x. x && b) e ∙ i

never_both : (a b : Bool) → b ≡ false → a && b ≡ false
never_both true b e = e
never_both false b e = refl

none_in : entries (empty {X = Entry} {R = nat_cmp}) ≡ []
none_in = no_length _ (sym (len-entries empty) ∙ len-empty nat_cmp Entry)

abbrev entries_in : Held Entry → Entries
entries_in (Map m) = m
entries_in _ = empty

some_of : {A : Type 0} (o : Option A) → is_some o ≡ true → (x : A) × (o ≡ Some x)
some_of None e = absurd (let f : ◌≡◌ {A = Bool} false true = e in cc)
some_of (Some x) e = (x, refl)

-- values as entries by f, and read from entries by g
module _ {X : Type 0} (f : X → Entry) (g : Entry → Option X) (back : (x : X) → g (f x) ≡ Some x)
    (only : (e : Entry) (x : X) → g e ≡ Some x → e ≡ f x) where
  abbrev all_of : List (ℕ × Entry) → Bool
  all_of es = list_all (λ e. is_some (g e.1)) es

  -- entries of the kind are those of the values among them
  put_as : (m : FinMap nat_cmp X) (es : List (ℕ × Entry)) → all_of es ≡ true
      → inserts (as_entries f m) es ≡ as_entries f (inserts m (kept g es))
  put_as m [] h = refl
  put_as m (e ∷ es) h =
      let each = and_parts (is_some (g e.1)) (all_of es) h in
      let found = some_of (g e.1) each.0 in
      ap (λ v. inserts (insert (as_entries f m) e.0 v) es) (only e.1 found.0 found.1)
      ∙ ap (λ n. inserts n es) (insert_as f m e.0 found.0)
      ∙ put_as (insert m e.0 found.0) es each.1
      ∙ sym (ap (λ o. as_entries f (inserts m (cons_option (option_map (λ x. (e.0, x)) o) (kept g es)))) found.1)

  all_among : (h : Held Entry) → is_map_of g h ≡ true → h ≡ Map (as_entries f (among g h))
  all_among (Map n) h = ap Map (sym (inserts_all n) ∙ ap (λ m. inserts m (entries n)) (empty_as f) ∙ put_as empty (entries n) h)
  all_among (Bag m) h = absurd (let e : ◌≡◌ {A = Bool} false true = h in cc)
  all_among (Pq m) h = absurd (let e : ◌≡◌ {A = Bool} false true = h in cc)
  all_among (Queue head items) h = absurd (let e : ◌≡◌ {A = Bool} false true = h in cc)

  -- entries that were made of values are of the kind
  put_all : (k : ℕ) (v : Entry) (es : List (ℕ × Entry)) → is_some (g v) ≡ true → all_of es ≡ true → all_of (put nat_cmp k v es) ≡ true
  put_all k v [] i h = are_both _ _ i refl
  put_all k v (e ∷ es) i h =
      let each = and_parts (is_some (g e.1)) (all_of es) h in
      by_cases k e.0 (λ r. all_of (by_order r ((k, v) ∷ e ∷ es) ((e.0, v) ∷ es) (e ∷ put nat_cmp k v es)) ≡ true)
      (λ _. are_both _ _ i h)
      (λ _. are_both _ _ i each.1)
      (λ _. are_both _ _ each.0 (put_all k v es i each.1))

  from_all : (es : List (ℕ × X)) → all_of (entries (from_entries {R = nat_cmp} (map (λ e. (e.0, f e.1)) es))) ≡ true
  from_all [] = ap all_of none_in
  from_all (e ∷ es) =
      ap all_of (entries-insert nat_cmp_total (from_entries (map (λ e. (e.0, f e.1)) es)) e.0 (f e.1))
      ∙ put_all e.0 (f e.1) _ (ap is_some (back e.1)) (from_all es)

  are_all : (m : FinMap nat_cmp X) → is_map_of g (Map (as_entries f m)) ≡ true
  are_all m = from_all (entries m)

  -- and give the values back
  undo : (o : Option X) → option_and_then g (option_map f o) ≡ o
  undo None = refl
  undo (Some x) = back x

  same_values : (m n : FinMap nat_cmp X) → as_entries f m ≡ as_entries f n → m ≡ n
  same_values m n e =
      same_map nat_cmp_total nat_cmp-IsAntisymmetric m n (λ q.
      sym (undo (get m q))
      ∙ ap (option_and_then g) (sym (get_as f m q) ∙ ap (λ t. get t q) e ∙ get_as f n q)
      ∙ undo (get n q))

  among_as : (m : FinMap nat_cmp X) → among g (Map (as_entries f m)) ≡ m
  among_as m = same_values _ m (sym (ap entries_in (all_among (Map (as_entries f m)) (are_all m))))

-- ---- the three kinds

item_only : (e : Entry) (x : Item) → item_of e ≡ Some x → e ≡ Stock x
item_only (Stock i) x h = ap (λ o. Stock (unwrap_or o i)) h
item_only (Client c) x h = cc
item_only (Slip t) x h = cc

customer_only : (e : Entry) (x : Customer) → customer_of e ≡ Some x → e ≡ Client x
customer_only (Stock i) x h = cc
customer_only (Client c) x h = ap (λ o. Client (unwrap_or o c)) h
customer_only (Slip t) x h = cc

ticket_only : (e : Entry) (x : Ticket) → ticket_of e ≡ Some x → e ≡ Slip x
ticket_only (Stock i) x h = cc
ticket_only (Client c) x h = cc
ticket_only (Slip t) x h = ap (λ o. Slip (unwrap_or o t)) h

all_items : (h : Held Entry) → is_map_of item_of h ≡ true → h ≡ Map (as_entries Stock (among item_of h))
all_items = all_among Stock item_of (λ x. refl) item_only

all_customers : (h : Held Entry) → is_map_of customer_of h ≡ true → h ≡ Map (as_entries Client (among customer_of h))
all_customers = all_among Client customer_of (λ x. refl) customer_only

all_tickets : (h : Held Entry) → is_map_of ticket_of h ≡ true → h ≡ Map (as_entries Slip (among ticket_of h))
all_tickets = all_among Slip ticket_of (λ x. refl) ticket_only

queue_is : (h : Held Entry) → is_queue h ≡ true → h ≡ Queue (line_of h).head (line_of h).tickets
queue_is (Map m) e = absurd (let f : ◌≡◌ {A = Bool} false true = e in cc)
queue_is (Bag m) e = absurd (let f : ◌≡◌ {A = Bool} false true = e in cc)
queue_is (Pq m) e = absurd (let f : ◌≡◌ {A = Bool} false true = e in cc)
queue_is (Queue head items) e = refl

-- ---- a state of the form of a tables'

module _ (next : ℕ) (cars flights rooms customers tickets for_cars for_flights for_rooms : Held Entry) where
  abbrev in_state : Contents Entry
  in_state =
      record {
        words = next ∷ [];
        held = cars ∷ flights ∷ rooms ∷ customers ∷ tickets ∷ for_cars ∷ for_flights ∷ for_rooms ∷ [];
      }

  abbrev parts : Holdings
  parts =
      record {
        items = stock_among cars flights rooms;
        customers = among customer_of customers;
        tickets = among ticket_of tickets;
        waiting = lines_of for_cars for_flights for_rooms;
        next = next;
      }

  abbrev are_theirs : Bool
  are_theirs = are_maps cars flights rooms customers tickets && are_queues for_cars for_flights for_rooms

  parts_are : are_theirs ≡ true → in_state ≡ state_of parts
  parts_are h =
      let all = and_parts (are_maps cars flights rooms customers tickets) _ h in
      let one = and_parts (is_map_of item_of cars) _ all.0 in
      let two = and_parts (is_map_of item_of flights) _ one.1 in
      let three = and_parts (is_map_of item_of rooms) _ two.1 in
      let four = and_parts (is_map_of customer_of customers) _ three.1 in
      let five = and_parts (is_queue for_cars) _ all.1 in
      let six = and_parts (is_queue for_flights) _ five.1 in
      λ i. record {
        words = next ∷ [];
        held = all_items cars one.0 i ∷ all_items flights two.0 i ∷ all_items rooms three.0 i
            ∷ all_customers customers four.0 i ∷ all_tickets tickets four.1 i
            ∷ queue_is for_cars five.0 i ∷ queue_is for_flights six.0 i ∷ queue_is for_rooms six.1 i ∷ [];
      }

  kinds_found : (b : Bool) → are_theirs ≡ b → (t : Holdings) → cond b (Some parts) None ≡ Some t → in_state ≡ state_of t
  kinds_found true h t e = parts_are h ∙ ap (λ o. state_of (unwrap_or o parts)) e
  kinds_found false h t e = absurd (let f : ◌≡◌ {A = Option Holdings} None (Some t) = e in cc)

found_in : (words : List ℕ) (held : List (Held Entry)) (t : Holdings) → tables_in words held ≡ Some t
    → ◌≡◌ {A = Contents Entry} (record { words = words; held = held }) (state_of t)
found_in (next ∷ []) (cars ∷ flights ∷ rooms ∷ customers ∷ tickets ∷ for_cars ∷ for_flights ∷ for_rooms ∷ []) t e =
    kinds_found next cars flights rooms customers tickets for_cars for_flights for_rooms _ refl t e
found_in _ _ t e = absurd (let f : ◌≡◌ {A = Option Holdings} None (Some t) = e in cc)

-- a state in which there are tables is theirs
found : (s : Contents Entry) (t : Holdings) → tables_held s ≡ Some t → s ≡ state_of t
found s t e = found_in s.words s.held t e

items_back : (m : FinMap nat_cmp Item) → among item_of (Map (as_entries Stock m)) ≡ m
items_back = among_as Stock item_of (λ x. refl) item_only

items_are : (m : FinMap nat_cmp Item) → is_map_of item_of (Map (as_entries Stock m)) ≡ true
items_are = are_all Stock item_of (λ x. refl) item_only

customers_back : (m : FinMap nat_cmp Customer) → among customer_of (Map (as_entries Client m)) ≡ m
customers_back = among_as Client customer_of (λ x. refl) customer_only

customers_are : (m : FinMap nat_cmp Customer) → is_map_of customer_of (Map (as_entries Client m)) ≡ true
customers_are = are_all Client customer_of (λ x. refl) customer_only

tickets_back : (m : FinMap nat_cmp Ticket) → among ticket_of (Map (as_entries Slip m)) ≡ m
tickets_back = among_as Slip ticket_of (λ x. refl) ticket_only

tickets_are : (m : FinMap nat_cmp Ticket) → is_map_of ticket_of (Map (as_entries Slip m)) ≡ true
tickets_are = are_all Slip ticket_of (λ x. refl) ticket_only

abbrev stock_held : (FinMap nat_cmp Item) → Held Entry
stock_held m = Map (as_entries Stock m)

abbrev line_held : Line → Held Entry
line_held q = Queue q.head q.tickets

kinds_are : (t : Holdings)
    → are_theirs t.next (stock_held t.items.car) (stock_held t.items.flight) (stock_held t.items.room) (Map (as_entries Client t.customers))
    (Map (as_entries Slip t.tickets)) (line_held t.waiting.car) (line_held t.waiting.flight) (line_held t.waiting.room) ≡ true
kinds_are t =
    are_both _ _ (are_both _ _ (items_are t.items.car) (are_both _ _ (items_are t.items.flight) (are_both _ _ (items_are t.items.room)
    (are_both _ _ (customers_are t.customers) (tickets_are t.tickets))))) refl

-- tables are in their state
in_their_state : (t : Holdings) → tables_held (state_of t) ≡ Some t
in_their_state t =
    ap (λ b. cond b (Some (parts t.next (stock_held t.items.car) (stock_held t.items.flight) (stock_held t.items.room)
    (Map (as_entries Client t.customers)) (Map (as_entries Slip t.tickets)) (line_held t.waiting.car) (line_held t.waiting.flight)
    (line_held t.waiting.room))) None) (kinds_are t)
    ∙ (λ i. Some (record t {
      items = record {
        car = items_back t.items.car i;
        flight = items_back t.items.flight i;
        room = items_back t.items.room i;
      };
      customers = customers_back t.customers i;
      tickets = tickets_back t.tickets i;
    }))

-- no two tables have one state
pub same_tables : (s t : Holdings) → state_of s ≡ state_of t → s ≡ t
same_tables s t e = ap (λ o. unwrap_or o s) (sym (in_their_state s) ∙ ap tables_held e ∙ in_their_state t)

-- ---- reading them

one_of : (words : List ℕ) → 1 ≤ length words → length words < 2 → words ≡ get_or words 0 0 ∷ []
one_of [] least most = absurd (omega (arith, least))
one_of (n ∷ []) least most = refl
one_of (n ∷ m ∷ words) least most = absurd (omega (arith, most))

eight_of : {a b c d e f g h : Held Entry} (held : List (Held Entry)) → 8 ≤ length held → length held < 9
    → a ≡ get_or held 0 a → b ≡ get_or held 1 b → c ≡ get_or held 2 c → d ≡ get_or held 3 d
    → e ≡ get_or held 4 e → f ≡ get_or held 5 f → g ≡ get_or held 6 g → h ≡ get_or held 7 h
    → held ≡ a ∷ b ∷ c ∷ d ∷ e ∷ f ∷ g ∷ h ∷ []
eight_of (_ ∷ _ ∷ _ ∷ _ ∷ _ ∷ _ ∷ _ ∷ _ ∷ []) least most one two three four five six seven eight =
    λ i. sym one i ∷ sym two i ∷ sym three i ∷ sym four i ∷ sym five i ∷ sym six i ∷ sym seven i ∷ sym eight i ∷ []
eight_of _ least most one two three four five six seven eight = absurd (omega (arith, least, most))

-- the collections of a state of eight, by name
module _ {cars flights rooms customers tickets for_cars for_flights for_rooms : Held Entry} (words : List ℕ) (held : List (Held Entry))
    (least : 1 ≤ length words) (most : length words < 2) (at_least : 8 ≤ length held) (at_most : length held < 9)
    (one : cars ≡ get_or held 0 cars) (two : flights ≡ get_or held 1 flights) (three : rooms ≡ get_or held 2 rooms)
    (four : customers ≡ get_or held 3 customers) (five : tickets ≡ get_or held 4 tickets) (six : for_cars ≡ get_or held 5 for_cars)
    (seven : for_flights ≡ get_or held 6 for_flights) (eight : for_rooms ≡ get_or held 7 for_rooms) where
  abbrev named : Holdings
  named = parts (get_or words 0 0) cars flights rooms customers tickets for_cars for_flights for_rooms

  reads_as : (b : Bool) → are_theirs (get_or words 0 0) cars flights rooms customers tickets for_cars for_flights for_rooms ≡ b
      → tables_in words held ≡ cond b (Some named) None
  reads_as b e =
      ap (λ w. tables_in w held) (one_of words least most)
      ∙ ap (tables_in (get_or words 0 0 ∷ [])) (eight_of held at_least at_most one two three four five six seven eight)
      ∙ ap (λ x. cond x (Some named) None) e

  pub reads : are_maps cars flights rooms customers tickets ≡ true → are_queues for_cars for_flights for_rooms ≡ true
      → tables_in words held ≡ Some named
  reads maps queues = reads_as true (are_both _ _ maps queues)

  pub reads_none : are_queues for_cars for_flights for_rooms ≡ false → tables_in words held ≡ None
  reads_none queues = reads_as false (never_both (are_maps cars flights rooms customers tickets) _ queues)

pub wants_memory : (o : Option Holdings) (t : Holdings) → o ≡ Some t → (r : Result Holdings Refusal) → IsErrAnd r (λ e. e ≡ OutOfMemory)
    → IfErr r (λ e. IsRefusal e (o ≡ None))
wants_memory o t some (Ok x) h = tt
wants_memory o t some (Err e) h =
    subst (λ f. IsRefusal f (o ≡ None)) (sym h) (λ none. let f : ◌≡◌ {A = Option Holdings} None (Some t) = sym none ∙ some in cc)

-- ---- what a call answers that reads the tables of a state

none_held : (s : Contents Entry) → tables_held s ≡ None → HoldsTables s → ⊥
none_held s e h =
    let f : ◌≡◌ {A = Option Holdings} None (Some h.tables) = sym e ∙ ap tables_held h.are ∙ in_their_state h.tables in cc

some_held : (s : Contents Entry) (o : Option Holdings) → tables_held s ≡ o → ¬ (o ≡ None) → HoldsTables s
some_held s None e h = absurd (h refl)
some_held s (Some t) e h = record { tables = t; are = found s t e }

refusal_is : (s : Contents Entry) (e : Refusal) → IsRefusal e (tables_held s ≡ None) → IsNoneSuch e (HoldsTables s)
refusal_is s NoSuch h = none_held s h
refusal_is s OutOfMemory h = some_held s (tables_held s) refl h
refusal_is s _ h = h

have_indexes : (t : Holdings) → All IsWithinLimits (state_of t).held → HaveIndexes t
have_indexes t within Car = within 5 (Map empty) (omega arith)
have_indexes t within Flight = within 6 (Map empty) (omega arith)
have_indexes t within Room = within 7 (Map empty) (omega arith)

-- and back: the queues alone have a limit
pub all_within : (t : Holdings) → HaveIndexes t → All IsWithinLimits (state_of t).held
all_within t h zero d lt = tt
all_within t h (suc zero) d lt = tt
all_within t h (suc (suc zero)) d lt = tt
all_within t h (suc (suc (suc zero))) d lt = tt
all_within t h (suc (suc (suc (suc zero)))) d lt = tt
all_within t h (suc (suc (suc (suc (suc zero))))) d lt = h Car
all_within t h (suc (suc (suc (suc (suc (suc zero)))))) d lt = h Flight
all_within t h (suc (suc (suc (suc (suc (suc (suc zero))))))) d lt = h Room
all_within t h (suc (suc (suc (suc (suc (suc (suc (suc i)))))))) d lt = absurd (omega (arith, lt))

module _ (s : Contents Entry) (words : List ℕ) (held : List (Held Entry)) (are_words : words ≡ s.words) (are_held : held ≡ s.held) where
  same_state : tables_in words held ≡ tables_held s
  same_state = ap (λ w. tables_in w held) are_words ∙ ap (tables_in s.words) are_held

  pub answers_held : (r : Result Holdings Refusal) → IfOk r (λ t. tables_in words held ≡ Some t) → IfOk r (λ t. s ≡ state_of t)
  answers_held (Ok t) h = found s t (sym same_state ∙ h)
  answers_held (Err e) h = h

  pub answers_inverse : (r : Result Holdings Refusal) → IfOk r (λ t. tables_in words held ≡ Some t) → (t : Holdings) → s ≡ state_of t
      → IfOk r (λ same. same ≡ t)
  answers_inverse (Ok x) h t is = same_tables x t (sym (found s x (sym same_state ∙ h)) ∙ is)
  answers_inverse (Err e) h t is = h

  pub answers_indexes : (r : Result Holdings Refusal) → IfOk r (λ t. tables_in words held ≡ Some t) → All IsWithinLimits held
      → IfOk r (λ t. HaveIndexes t)
  answers_indexes (Ok t) h within =
      have_indexes t (subst (All IsWithinLimits) (are_held ∙ ap (λ x. x.held) (found s t (sym same_state ∙ h))) within)
  answers_indexes (Err e) h within = h

  pub answers_refused : (r : Result Holdings Refusal) → IfErr r (λ e. IsRefusal e (tables_in words held ≡ None))
      → IfErr r (λ e. IsNoneSuch e (HoldsTables s))
  answers_refused (Ok t) h = h
  answers_refused (Err e) h = refusal_is s e (subst (λ o. IsRefusal e (o ≡ None)) same_state h)
