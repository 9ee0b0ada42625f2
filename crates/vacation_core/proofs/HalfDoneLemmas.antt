-- Words and collections of a world of sessions hold tables at each moment, also where commits are half done.
-- Each location of a map shows what the sessions up to some number left there (`PastLemmas`), and that is of balanced tables. So whatever
-- is looked up in the map is of its kind, since a look-up in a map that is put together of parts is one in the part of the key's location.
-- A queue is a queue whatever it shows. So the kinds of collections and entries are those of tables, and by these a state is known to be
-- one.
use Rattle.std.proofs.Common.{◌≡◌, ℕ, ◌+◌, ◌<◌, ◌≤◌, Bool, true, false, cond, eqb, List, [], ◌∷◌, Option, Some, None}
use Rattle.std.proofs.Common.{refl, sym, ◌∙◌, ap, subst, arith, lt-ltb, le-ltb, ltb}
use Rattle.std.specs.Prelude.{is_some, map, option_map, not, ◌&&◌, ◌||◌, Ok, Result}
use Rattle.std.specs.List.{list_all}
use Rattle.std.specs.Ordering.{eq_by_cmp, nat_cmp}
use Rattle.std.specs.FinMap.{FinMap, entries, entries_sorted, find, get, get-entries}
use Rattle.std.proofs.Math.Nat.{mod-lt}
use Rattle.std.proofs.lemmas.Bool.{cond-true}
use Rattle.std.proofs.lemmas.Bool.Decides.{nat_tests}
use Rattle.std.proofs.lemmas.Option.{none-some, same_Some}
use Rattle.conflict.specs.Footprints.{all_below, key_location}
use Rattle.seq_model.specs.Contents.{Contents}
use Rattle.seq_model.specs.Runs.{state_at}
use Rattle.seq_model.specs.declared.held.Held.{Held}
use Rattle.seq_model.specs.declared.held.Held.TheVariants.{Map, Queue}
use Rattle.seq_model.specs.declared.refusal.Refusal.{Refusal}
use Rattle.seq_model.proofs.EntryLemmas.{AreFresh, fresh_rising}
use Rattle.replay_log.specs.Base.{Shown, held_of}
use Rattle.replay_log.specs.Collections.{Suit, kind_of_held, shown_from, viewed}
use Rattle.replay_log.specs.Contents.{Block, HaveStripes, end_of, is_plain, size, size_by}
use Rattle.replay_log.specs.Parts.{Kind, MapKind, QueueKind, as_map, joined, kept, part, whole}
use Rattle.replay_log.specs.WorldSerial.{IsSerial}
use Rattle.replay_log.specs.Worlds.{World, held_from, state}
use Rattle.replay_log.proofs.CollectionLemmas.{behind, beyond, here}
use Rattle.replay_log.proofs.ContentLemmas.{end_above}
use Rattle.replay_log.proofs.JoinLemmas.{get_joined, get_kept}
use Rattle.replay_log.proofs.RequestLemmas.{run_by}
use Rattle.replay_log.proofs.SerialLemmas.{serial_world}
use Rattle.vac_model.specs.Holdings.{Holdings}
use Rattle.client_sessions.specs.declared.entry.Entry.{Entry}
use Rattle.client_sessions.specs.declared.entry.Entry.TheVariants.{Item as Stock, Customer as Client, Ticket as Slip}
use Rattle.client_sessions.specs.Holding.{HoldsTables, as_entries, state_of}
use Rattle.client_sessions.specs.Parts.{among, are_maps, are_queues, customer_of, is_map_of, is_queue, item_of, lines_of}
use Rattle.client_sessions.specs.Parts.{stock_among, tables_in, ticket_of}
use Rattle.client_sessions.specs.Runs.{HoldsBalanced}
use Rattle.client_sessions.proofs.HoldingLemmas.{get_as}
use Rattle.client_sessions.proofs.RunLemmas.{each_number_holds_tables}
use Rattle.client_sessions.proofs.TablesLemmas.{answers_held}
use Rattle.vacation_core.specs.ClientWorlds.{events_of}
use Rattle.vacation_core.specs.Histories.{History, IsLawful, opening_of, world_in}
use Rattle.vacation_core.specs.Serial.{IsSerialSessions}
use Rattle.vacation_core.proofs.ServeLemmas.{sessions_are_serial}
use Rattle.vacation_core.proofs.PastLemmas.{shows_past}

-- ---- maps of one kind of entries

-- each entry is of the kind that g names
abbrev AllOf : {X : Type 0} → (Entry → Option X) → FinMap nat_cmp Entry → Type 0
AllOf g m = (q : ℕ) (x : Entry) → get m q ≡ Some x → is_some (g x) ≡ true

same_self : (k : ℕ) → eq_by_cmp nat_cmp k k ≡ true
same_self k = grind (arith, nat_tests)

same_key : (x y : ℕ) → eq_by_cmp nat_cmp x y ≡ true → x ≡ y
same_key x y h = grind (arith, nat_tests)

-- what holds of all that is found holds of all entries
all_found : (t : Entry → Bool) (es : List (ℕ × Entry)) → AreFresh es
    → ((q : ℕ) (x : Entry) → find nat_cmp q es ≡ Some x → t x ≡ true) → list_all (λ e. t e.1) es ≡ true
all_found t [] fresh each = refl
all_found t (e ∷ es) fresh each =
    let first : t e.1 ≡ true = each e.0 e.1 (ap (λ b. cond b (Some e.1) (find nat_cmp e.0 es)) (same_self e.0)) in
    ap (λ b. b && list_all (λ d. t d.1) es) first
    ∙ all_found t es fresh.1 (λ q x is. each q x (later q x is (eq_by_cmp nat_cmp q e.0) refl))
  where
    later : (q : ℕ) (x : Entry) → find nat_cmp q es ≡ Some x → (b : Bool) → eq_by_cmp nat_cmp q e.0 ≡ b
        → cond (eq_by_cmp nat_cmp q e.0) (Some e.1) (find nat_cmp q es) ≡ Some x
    later q x is true same =
        absurd (none-some x (sym fresh.0 ∙ ap (λ k. find nat_cmp k es) (sym (same_key q e.0 same)) ∙ is))
    later q x is false apart = ap (λ b. cond b (Some e.1) (find nat_cmp q es)) apart ∙ is

all_entries : {X : Type 0} → (g : Entry → Option X) (m : FinMap nat_cmp Entry) → AllOf g m
    → list_all (λ e. is_some (g e.1)) (entries m) ≡ true
all_entries g m all =
    all_found (λ x. is_some (g x)) (entries m) (fresh_rising (entries m) (entries_sorted m))
    (λ q x is. all q x (get-entries m q ∙ is))

-- entries that were made of values are
all_made : {X : Type 0} → (f : X → Entry) (g : Entry → Option X) → ((x : X) → g (f x) ≡ Some x) → (m : FinMap nat_cmp X)
    → AllOf g (as_entries f m)
all_made f g back m q x is = by (get m q) (sym (get_as f m q) ∙ is)
  where
    by : (o : Option _) → option_map f o ≡ Some x → is_some (g x) ≡ true
    by None e = absurd (none-some x e)
    by (Some y) e = ap (λ z. is_some (g z)) (sym (same_Some (f y) x e)) ∙ ap is_some (back y)

-- ---- what the collections of tables are

data Sort : Type 0 where
  Items Customers Tickets Lines : Sort

abbrev kind_by : Sort → Kind
kind_by Lines = QueueKind
kind_by s = MapKind

abbrev IsOf : Sort → Held Entry → Type 0
IsOf Items (Map m) = AllOf item_of m
IsOf Customers (Map m) = AllOf customer_of m
IsOf Tickets (Map m) = AllOf ticket_of m
IsOf Lines (Queue head items) = Unit {0}
IsOf s h = ⊥

abbrev AreOf : List Sort → List (Held Entry) → Type 0
AreOf [] [] = Unit {0}
AreOf (s ∷ ss) (h ∷ hs) = IsOf s h × AreOf ss hs
AreOf ss hs = ⊥

is_kind : (s : Sort) (h : Held Entry) → IsOf s h → kind_of_held h ≡ kind_by s
is_kind Items (Map m) is = refl
is_kind Customers (Map m) is = refl
is_kind Tickets (Map m) is = refl
is_kind Lines (Queue head items) is = refl
is_kind s h is = absurd is

-- ---- a collection that is put together of parts

-- the part x of location i is that of a collection of this sort
record IsPart (s : Sort) (n i : ℕ) (x : Shown Entry) : Type 0 where
  held : Held Entry
  is : IsOf s held
  shown : x ≡ part n i (viewed held)

kept_of : {X : Type 0} → (g : Entry → Option X) (place : ℕ → ℕ) (l : ℕ) (m : FinMap nat_cmp Entry) → AllOf g m → AllOf g (kept place l m)
kept_of g place l m all q x is = by (eqb (place q) l) (sym (get_kept place l m q) ∙ is)
  where
    by : (b : Bool) → cond b (get m q) None ≡ Some x → is_some (g x) ≡ true
    by true e = all q x e
    by false e = absurd (none-some x e)

joined_of : {X : Type 0} → (g : Entry → Option X) (n : ℕ) (v : ℕ → FinMap nat_cmp Entry) → 0 < n
    → ((i : ℕ) → i < n → AllOf g (v i)) → AllOf g (joined (key_location n) n v)
joined_of g n v pos each q x is =
    let lt = mod-lt q pos in each (key_location n q) lt q x (sym (get_joined (key_location n) n v q lt) ∙ is)

abbrev AllAsMap : {X : Type 0} → (Entry → Option X) → Shown Entry → Type 0
AllAsMap g x = AllOf g (as_map x)

items_in : (n i : ℕ) (x : Shown Entry) → IsPart Items n i x → AllOf item_of (as_map x)
items_in n i x p = by p.held p.is p.shown
  where
    by : (h : Held Entry) → IsOf Items h → x ≡ part n i (viewed h) → AllOf item_of (as_map x)
    by (Map m) is e = subst (AllAsMap item_of) (sym e) (kept_of item_of (key_location n) i m is)
    by h is e = absurd is

customers_in : (n i : ℕ) (x : Shown Entry) → IsPart Customers n i x → AllOf customer_of (as_map x)
customers_in n i x p = by p.held p.is p.shown
  where
    by : (h : Held Entry) → IsOf Customers h → x ≡ part n i (viewed h) → AllOf customer_of (as_map x)
    by (Map m) is e = subst (AllAsMap customer_of) (sym e) (kept_of customer_of (key_location n) i m is)
    by h is e = absurd is

tickets_in : (n i : ℕ) (x : Shown Entry) → IsPart Tickets n i x → AllOf ticket_of (as_map x)
tickets_in n i x p = by p.held p.is p.shown
  where
    by : (h : Held Entry) → IsOf Tickets h → x ≡ part n i (viewed h) → AllOf ticket_of (as_map x)
    by (Map m) is e = subst (AllAsMap ticket_of) (sym e) (kept_of ticket_of (key_location n) i m is)
    by h is e = absurd is

whole_of : (s : Sort) (n : ℕ) (v : ℕ → Shown Entry) → 0 < n → ((i : ℕ) → i < size_by (kind_by s) n → IsPart s n i (v i))
    → IsOf s (held_of (whole n (kind_by s) v))
whole_of Items n v pos each = joined_of item_of n (λ i. as_map (v i)) pos (λ i lt. items_in n i (v i) (each i lt))
whole_of Customers n v pos each = joined_of customer_of n (λ i. as_map (v i)) pos (λ i lt. customers_in n i (v i) (each i lt))
whole_of Tickets n v pos each = joined_of ticket_of n (λ i. as_map (v i)) pos (λ i lt. tickets_in n i (v i) (each i lt))
whole_of Lines n v pos each = tt

first_part : (f : ℕ) (b : Block) (bs : List Block) (s : Sort) (ss : List Sort) (i : ℕ) (x : Shown Entry) (gs : List (Held Entry))
    → i < size b → AreOf (s ∷ ss) gs → x ≡ shown_from f (b ∷ bs) gs (f + i) → IsPart s b.stripes i x
first_part f b bs s ss i x [] lt are e = absurd are
first_part f b bs s ss i x (g ∷ gs) lt are e = record { held = g; is = are.0; shown = e ∙ here f b b bs g gs i refl lt }

other_parts : (f : ℕ) (b : Block) (bs : List Block) (s : Sort) (ss : List Sort) (l : ℕ) (x : Shown Entry) (gs : List (Held Entry))
    → f + size b ≤ l → AreOf (s ∷ ss) gs → x ≡ shown_from f (b ∷ bs) gs l
    → (hs : List (Held Entry)) × AreOf ss hs × (x ≡ shown_from (f + size b) bs hs l)
other_parts f b bs s ss l x [] ge are e = absurd are
other_parts f b bs s ss l x (g ∷ gs) ge are e = (gs, are.1, e ∙ beyond f b bs g gs l ge)

-- all collections, whose parts stand from location f on
held_of_all : (f : ℕ) (bs : List Block) (ss : List Sort) (hs : List (Held Entry)) (v : ℕ → Shown Entry) → HaveStripes bs → Suit bs hs
    → AreOf ss hs
    → ((l : ℕ) → f ≤ l → l < end_of f bs → (gs : List (Held Entry)) × AreOf ss gs × (v l ≡ shown_from f bs gs l))
    → AreOf ss (held_from f bs v)
held_of_all f [] [] [] v pos suit are each = tt
held_of_all f [] (s ∷ ss) [] v pos suit are each = absurd are
held_of_all f [] ss (h ∷ hs) v pos suit are each = absurd suit
held_of_all f (b ∷ bs) ss [] v pos suit are each = absurd suit
held_of_all f (b ∷ bs) [] (h ∷ hs) v pos suit are each = absurd are
held_of_all f (b ∷ bs) (s ∷ ss) (h ∷ hs) v pos suit are each = (
  subst (λ k. IsOf s (held_of (whole b.stripes k (λ i. v (f + i))))) kind
      (whole_of s b.stripes (λ i. v (f + i)) pos.0 (λ i lt. first i (subst (λ k. i < size_by k b.stripes) kind lt))),
  held_of_all (f + size b) bs ss hs v pos.1 suit.2 are.1
      (λ l ge lt. let e = each l (omega (arith, ge)) lt in other_parts f b bs s ss l (v l) e.0 ge e.1 e.2),
)
  where
    kind : kind_by s ≡ b.kind
    kind = sym (is_kind s h are.0) ∙ suit.0

    first : (i : ℕ) → i < size b → IsPart s b.stripes i (v (f + i))
    first i lt =
        let above = end_above (f + size b) bs in
        let e = each (f + i) (omega arith) (omega (arith, lt, above)) in
        first_part f b bs s ss i (v (f + i)) e.0 lt e.1 e.2

-- ---- a state of the form of a tables'

abbrev sorts : List Sort
sorts = Items ∷ Items ∷ Items ∷ Customers ∷ Tickets ∷ Lines ∷ Lines ∷ Lines ∷ []

state_sorts : (t : Holdings) → AreOf sorts (state_of t).held
state_sorts t = (
  all_made Stock item_of (λ x. refl) t.items.car,
  (
    all_made Stock item_of (λ x. refl) t.items.flight,
    (
      all_made Stock item_of (λ x. refl) t.items.room,
      (
        all_made Client customer_of (λ x. refl) t.customers,
        (all_made Slip ticket_of (λ x. refl) t.tickets, (tt, (tt, (tt, tt)))),
      ),
    ),
  ),
)

are_items : (h : Held Entry) → IsOf Items h → is_map_of item_of h ≡ true
are_items (Map m) is = all_entries item_of m is
are_items h is = absurd is

are_customers : (h : Held Entry) → IsOf Customers h → is_map_of customer_of h ≡ true
are_customers (Map m) is = all_entries customer_of m is
are_customers h is = absurd is

are_tickets : (h : Held Entry) → IsOf Tickets h → is_map_of ticket_of h ≡ true
are_tickets (Map m) is = all_entries ticket_of m is
are_tickets h is = absurd is

are_lines : (h : Held Entry) → IsOf Lines h → is_queue h ≡ true
are_lines (Queue head items) is = refl
are_lines h is = absurd is

both : (a b : Bool) → a ≡ true → b ≡ true → a && b ≡ true
both a b e i = ap (λ x. x && b) e ∙ i

tables_by : (next : ℕ) (held : List (Held Entry)) → AreOf sorts held
    → HoldsTables (let s : Contents Entry = record { words = next ∷ []; held = held } in s)
tables_by next [] are = absurd are
tables_by next (a ∷ []) are = absurd are.1
tables_by next (a ∷ b ∷ []) are = absurd are.1.1
tables_by next (a ∷ b ∷ c ∷ []) are = absurd are.1.1.1
tables_by next (a ∷ b ∷ c ∷ d ∷ []) are = absurd are.1.1.1.1
tables_by next (a ∷ b ∷ c ∷ d ∷ e ∷ []) are = absurd are.1.1.1.1.1
tables_by next (a ∷ b ∷ c ∷ d ∷ e ∷ f ∷ []) are = absurd are.1.1.1.1.1.1
tables_by next (a ∷ b ∷ c ∷ d ∷ e ∷ f ∷ g ∷ []) are = absurd are.1.1.1.1.1.1.1
tables_by next (a ∷ b ∷ c ∷ d ∷ e ∷ f ∷ g ∷ h ∷ x ∷ xs) are = absurd are.1.1.1.1.1.1.1.1
tables_by next (a ∷ b ∷ c ∷ d ∷ e ∷ f ∷ g ∷ h ∷ []) are =
    let held : List (Held Entry) = a ∷ b ∷ c ∷ d ∷ e ∷ f ∷ g ∷ h ∷ [] in
    let s : Contents Entry = record { words = next ∷ []; held = held } in
    let t : Holdings = record {
      items = stock_among a b c;
      customers = among customer_of d;
      tickets = among ticket_of e;
      waiting = lines_of f g h;
      next = next;
    } in
    let maps : are_maps a b c d e ≡ true =
    both _ _ (are_items a are.0) (both _ _ (are_items b are.1.0) (both _ _ (are_items c are.1.1.0)
    (both _ _ (are_customers d are.1.1.1.0) (are_tickets e are.1.1.1.1.0)))) in
    let queues : are_queues f g h ≡ true =
    both _ _ (are_lines f are.1.1.1.1.1.0) (both _ _ (are_lines g are.1.1.1.1.1.1.0) (are_lines h are.1.1.1.1.1.1.1.0)) in
    let is : tables_in (next ∷ []) held ≡ Some t =
    cond-true (are_maps a b c d e && are_queues f g h) (Some t) None (both _ _ maps queues) in
    record { tables = t; are = answers_held s (next ∷ []) held refl refl (let r : Result Holdings Refusal = Ok t in r) is }

-- ---- at each moment

in_blocks : (w : ℕ) (bs : List Block) (l : ℕ) → w ≤ l → l < end_of w bs → is_plain w bs l ≡ false
in_blocks w bs l ge lt = ap (λ b. b || not (ltb l (end_of w bs))) (le-ltb l w ge) ∙ ap not (lt-ltb l (end_of w bs) lt)

-- words and collections of w, where it has so many words and these blocks
abbrev shown_as : World Entry → ℕ → List Block → Contents Entry
shown_as w k bs = record { words = map w.boosted.words.values (all_below k); held = held_from k bs w.boosted.parts }

pub holds_tables : (h : History) → IsLawful h → HoldsTables (state (world_in h))
holds_tables h lawful =
    let first = opening_of h in
    let opening = state_of h.tables in
    let w = world_in h in
    let events = events_of h.turns in
    let ran = run_by events first in
    let serial : IsSerialSessions h.tables h.actions first h.turns =
    sessions_are_serial h.blocks h.clock h.tables h.actions h.turns lawful.allowed lawful.balanced lawful.stripes lawful.suits
    lawful.asks in
    let world : IsSerial opening w = serial_world h.blocks lawful.stripes h.clock opening.words opening.held lawful.suits events in
    let all : AreOf sorts (held_from 1 h.blocks w.boosted.parts) =
    held_of_all 1 h.blocks sorts opening.held w.boosted.parts lawful.stripes lawful.suits (state_sorts h.tables)
    (λ l ge lt.
    let past = shows_past h.blocks lawful.stripes h.clock opening.words opening.held lawful.suits events l (in_blocks 1 h.blocks l ge lt) in
    let at : HoldsBalanced (state_at past.0 w.records opening) =
    each_number_holds_tables serial.deals w.records h.tables past.0 lawful.balanced serial.sessions serial.ordered world.run in
    let held = (state_at past.0 w.records opening).held in
    let theirs : AreOf sorts held = subst (λ (s : Contents Entry). AreOf sorts s.held) (sym at.are) (state_sorts at.tables) in
    (held, theirs, past.1 ∙ behind 1 h.blocks held l ge)) in
    subst (λ k. HoldsTables (shown_as w k w.blocks)) (sym ran.words)
    (subst (λ bs. HoldsTables (shown_as w 1 bs)) (sym ran.blocks)
    (tables_by (w.boosted.words.values 0) (held_from 1 h.blocks w.boosted.parts) all))
