-- Along a program: what holds of what is left of it holds of it. Each call's contract speaks of every program that continues after it, so
-- the steps of a walk are put together by instances alone.
use Rattle.std.proofs.Common.{◌≡◌, ◌≢◌, ℕ, zero, suc, ◌+◌, ◌<◌, ◌≤◌, ◌==◌, true, false, cond, List, [], ◌∷◌, ◌++◌, length, drop, drop-cons}
use Rattle.std.proofs.Common.{add-one, append_assoc, get_or, Option, Some, Result, refl, sym, ◌∙◌, ap, subst, arith}
use Rattle.std.specs.Prelude.{nat_lt, nat_le, is_none, ◌&&◌, if◌then◌else◌}
use Rattle.std.specs.List.{list_any}
use Rattle.std.proofs.lemmas.Bool.Decides.{nat_tests}
use Rattle.seq_model.specs.declared.call.Reply.{Reply}
use Rattle.seq_model.specs.declared.call.Call.{Call}
use Rattle.seq_model.specs.Programs.{after, Asks, Answers, GivesUp}
use Rattle.vac_model.specs.declared.item.Kind.{Kind}
use Rattle.vac_model.specs.declared.item.Kind.TheVariants.{Car, Flight, Room}
use Rattle.vac_model.specs.declared.item.Item.{Item}
use Rattle.vac_model.specs.declared.item.Booking.{Booking}
use Rattle.vac_model.specs.declared.item.Wait.{Wait}
use Rattle.vac_model.specs.declared.item.Customer.{Customer}
use Rattle.vac_model.specs.declared.item.Ticket.{Ticket}
use Rattle.vac_model.specs.declared.action.Ask.{Ask}
use Rattle.vac_model.specs.declared.action.Change.{Change}
use Rattle.vac_model.specs.declared.action.ChangeReply.{ChangeReply}
use Rattle.vac_model.specs.declared.action.KindReply.{KindReply}
use Rattle.vac_model.specs.declared.action.KindReply.TheVariants.{Nothing, Already, Full, Booked, NoFree, Waits}
use Rattle.vac_model.specs.declared.action.ActionReply.TheVariants.{Reserved}
use Rattle.vac_model.specs.declared.limits.TheConstants.{SERVE_LIMIT, TICKET_LIMIT}
use Rattle.vac_model.specs.Holdings.{same_kind, everywhere}
use Rattle.vac_model.specs.Actions.{has, is_full, take_units, give_units}
use Rattle.client_sessions.specs.declared.entry.Entry.{Entry}
use Rattle.client_sessions.specs.declared.walk.Stop.{Stop}
use Rattle.client_sessions.specs.Sessions.{SessionProgram, gather, better, get_item, put_item, get_customer, put_customer, give_back}
use Rattle.client_sessions.specs.Sessions.{give_all_back, remove_ticket, forget_all, change_one, change_each, with_wait, line_up}
use Rattle.client_sessions.specs.Sessions.{enqueue, put_ticket}
use Rattle.client_sessions.specs.Sessions.{write_next, serve_item, serve_first, serve, end_wait, peek, serve_freed, reserve_among, decide}
use Rattle.client_sessions.specs.Sessions.{decide_all, read_next, with_booking, is_same_item, set_item}
use Rattle.client_sessions.specs.Serving.{waiter}
use Rattle.client_sessions.specs.Walks.{Comes, IsStop}

pub along : {T : Type 0} (p q : SessionProgram) (r : Result T Stop) (on : T → SessionProgram) → p ≡ q → Comes q r on → Comes p r on
along p q r on e h = subst (λ x. Comes x r on) (sym e) h

pub stops_along : (p q : SessionProgram) (stop : Stop) → p ≡ q → IsStop stop q → IsStop stop p
stops_along p q stop e h = subst (IsStop stop) (sym e) h

-- a reply is taken off
pub replied : (call : Call Entry) (next : Reply Entry → SessionProgram) (old new : List (Reply Entry)) (reply : Reply Entry)
    → old ≡ reply ∷ new → after (Asks call next) old ≡ after (next reply) new
replied call next old new reply e = ap (after (Asks call next)) e

-- ---- lists that are walked through
pub drop_next : {X : Type 0} (xs : List X) (i : ℕ) (d : X) → i < length xs → drop i xs ≡ get_or xs i d ∷ drop (i + 1) xs
drop_next xs i d lt = drop-cons xs i d lt ∙ ap (λ j. get_or xs i d ∷ drop j xs) (sym (add-one i))

module _ (asks : List Ask) (i : ℕ) (d : Ask) (car flight room : Option (ℕ × Item))
    (next : Option (ℕ × Item) → Option (ℕ × Item) → Option (ℕ × Item) → SessionProgram) where
  abbrev pub gather_on : Option Item → SessionProgram
  gather_on o =
      let ask : Ask = get_or asks i d in
      gather (drop (i + 1) asks) (better Car ask o car) (better Flight ask o flight) (better Room ask o room) next

  pub gather_next : (left : List (Reply Entry)) → i < length asks → after (gather (drop i asks) car flight room next) left
      ≡ after (get_item (get_or asks i d).kind (get_or asks i d).id gather_on) left
  gather_next left lt = ap (λ xs. after (gather xs car flight room next) left) (drop_next asks i d lt)

module _ (bookings : List Booking) (i : ℕ) (d : Booking) (next : SessionProgram) where
  pub back_next : (left : List (Reply Entry)) → i < length bookings → after (give_all_back (drop i bookings) next) left
      ≡ after (get_item (get_or bookings i d).kind (get_or bookings i d).id
      (λ o. give_back (get_or bookings i d) o (give_all_back (drop (i + 1) bookings) next))) left
  back_next left lt = ap (λ xs. after (give_all_back xs next) left) (drop_next bookings i d lt)

module _ (waits : List Wait) (i : ℕ) (d : Wait) (next : SessionProgram) where
  pub forget_next : (left : List (Reply Entry)) → i < length waits → after (forget_all (drop i waits) next) left
      ≡ after (remove_ticket (get_or waits i d).ticket (forget_all (drop (i + 1) waits) next)) left
  forget_next left lt = ap (λ xs. after (forget_all xs next) left) (drop_next waits i d lt)

-- replies to removes of tickets say nothing
pub forgotten : (n : ℕ) (waits : List Wait) (next : SessionProgram) (replies : List (Reply Entry)) → n ≤ length waits → n ≤ length replies
    → after (forget_all waits next) replies ≡ after (forget_all (drop n waits) next) (drop n replies)
forgotten zero waits next replies few told = refl
forgotten (suc n) [] next replies few told = absurd (omega (arith, few))
forgotten (suc n) (w ∷ waits) next [] few told = absurd (omega (arith, told))
forgotten (suc n) (w ∷ waits) next (reply ∷ replies) few told = forgotten n waits next replies (omega (arith, few)) (omega (arith, told))

module _ (changes : List Change) (i : ℕ) (d : Change) (next : List ChangeReply → SessionProgram) where
  pub each_next : (left : List (Reply Entry)) → i < length changes → after (change_each (drop i changes) next) left
      ≡ after (change_one (get_or changes i d) (λ made. change_each (drop (i + 1) changes) (λ more. next (made ∷ more)))) left
  each_next left lt = ap (λ xs. after (change_each xs next) left) (drop_next changes i d lt)

pub made_on : (made new : List ChangeReply) (one : ChangeReply) → new ≡ made ++ one ∷ [] → (next : List ChangeReply → SessionProgram)
    → ◌≡◌ {A = List ChangeReply → SessionProgram} (λ more. next (made ++ (one ∷ more))) (λ more. next (new ++ more))
made_on made new one is next =
    λ j more. next ((sym (append_assoc made (one ∷ []) more) ∙ ap (λ (m : List ChangeReply). m ++ more) (sym is)) j)

-- ---- choices
pub back_refused : (b : Booking) (i : Item) (next : SessionProgram) → i.used < b.units → give_back b (Some i) next ≡ GivesUp
back_refused b i next lt =
    let t : nat_lt i.used b.units ≡ true = grind (arith, nat_tests) in
    ap (λ c. cond c GivesUp (put_item b.kind b.id (give_units b.units i) next)) t

pub back_given : (b : Booking) (i : Item) (next : SessionProgram) → b.units ≤ i.used
    → give_back b (Some i) next ≡ put_item b.kind b.id (give_units b.units i) next
back_given b i next le =
    let t : nat_lt i.used b.units ≡ false = grind (arith, nat_tests) in
    ap (λ c. cond c GivesUp (put_item b.kind b.id (give_units b.units i) next)) t

module _ (c units : ℕ) (k : Kind) (id : ℕ) (who : Customer) (next : KindReply → Customer → SessionProgram) where
  -- where there is a further ticket
  abbrev pub ticket_for : Ticket
  ticket_for = record { customer = c; kind = k; id = id; units = units }

  abbrev pub waits_on : ℕ → SessionProgram
  waits_on t = next (Waits id t) (with_wait units k id t who)

  abbrev pub enqueues : ℕ → SessionProgram
  enqueues t = enqueue k t (waits_on t)

  abbrev pub puts : ℕ → SessionProgram
  puts t = put_ticket t ticket_for (enqueues t)

  pub no_ticket : (t : ℕ) → t ≡ TICKET_LIMIT → line_up c units k id who next t ≡ next (NoFree id) who
  no_ticket t e =
      let b : (t == TICKET_LIMIT) ≡ true = grind (arith, nat_tests) in
      ap (λ b. cond b (next (NoFree id) who) (write_next (t + 1) (puts t))) b

  pub a_ticket : (t : ℕ) → t ≢ TICKET_LIMIT → line_up c units k id who next t ≡ write_next (t + 1) (puts t)
  a_ticket t e =
      let b : (t == TICKET_LIMIT) ≡ false = grind (arith, nat_tests) in
      ap (λ b. cond b (next (NoFree id) who) (write_next (t + 1) (puts t))) b

-- ---- serving
module _ (k : Kind) (t : ℕ) (x : Ticket) (i : Item) (later : ℕ → SessionProgram) (end : SessionProgram) where
  abbrev pub own_booking : Booking
  own_booking = record { kind = x.kind; id = x.id; units = x.units; price = i.price }

  abbrev pub served_later : SessionProgram
  served_later = get_customer x.customer (λ o. put_customer x.customer (waiter t (Some own_booking) o) (later 1))

  abbrev pub books_on : SessionProgram
  books_on = put_item x.kind x.id (take_units x.units i) served_later

  pub few_free : i.free < x.units → serve_item k t x (Some i) later end ≡ end
  few_free lt =
      let b : nat_le x.units i.free ≡ false = grind (arith, nat_tests) in
      ap (λ b. cond b (end_wait k t books_on) end) b

  pub enough_free : x.units ≤ i.free → serve_item k t x (Some i) later end ≡ end_wait k t books_on
  enough_free le =
      let b : nat_le x.units i.free ≡ true = grind (arith, nat_tests) in
      ap (λ b. cond b (end_wait k t books_on) end) b

pub serve_some : (n : ℕ) (k : Kind) (next : ℕ → SessionProgram) (m : ℕ) → n ≡ suc m
    → serve n k next ≡ peek k (λ o. serve_first k o (λ one. serve m k (λ more. next (one + more))) (next 0))
serve_some n k next m e = ap (λ j. serve j k next) e

pub freed_served : (bookings : List Booking) (k : Kind) (next : ℕ → SessionProgram) → list_any (λ b. same_kind b.kind k) bookings ≡ true
    → serve_freed bookings k next ≡ serve SERVE_LIMIT k next
freed_served bookings k next e = ap (λ b. cond b (serve SERVE_LIMIT k next) (next 0)) e

pub someone : (c units : ℕ) (car flight room : Option (ℕ × Item)) → (is_none car && (is_none flight && is_none room)) ≡ false
    → reserve_among c units car flight room ≡ get_customer c (decide_all c units car flight room)
someone c units car flight room e =
    ap (λ b. cond b (Answers (Reserved (everywhere Nothing))) (get_customer c (decide_all c units car flight room))) e

-- ---- the candidate of a kind
module _ (c units : ℕ) (k : Kind) (id : ℕ) (i : Item) (who : Customer) (next : KindReply → Customer → SessionProgram)
    (new : has who k id ≡ false) (few : is_full who ≡ false) where
  pub lines_up : i.free < units → decide c units k (Some (id, i)) who next ≡ read_next (line_up c units k id who next)
  lines_up lt =
      let b : nat_le units i.free ≡ false = grind (arith, nat_tests) in
      ap (λ b. cond b (next (Already id) who) (if is_full who then next (Full id) who
      else if nat_le units i.free then put_item k id (take_units units i)
      (next (Booked id units i.price) (with_booking units k id i.price who))
      else read_next (line_up c units k id who next))) new
      ∙ ap (λ b. cond b (next (Full id) who)
      (if nat_le units i.free then put_item k id (take_units units i) (next (Booked id units i.price) (with_booking units k id i.price who))
      else read_next (line_up c units k id who next))) few
      ∙ ap (λ b. cond b (put_item k id (take_units units i) (next (Booked id units i.price) (with_booking units k id i.price who)))
      (read_next (line_up c units k id who next))) b

  pub books : units ≤ i.free → decide c units k (Some (id, i)) who next
      ≡ put_item k id (take_units units i) (next (Booked id units i.price) (with_booking units k id i.price who))
  books le =
      let b : nat_le units i.free ≡ true = grind (arith, nat_tests) in
      ap (λ b. cond b (next (Already id) who) (if is_full who then next (Full id) who
      else if nat_le units i.free then put_item k id (take_units units i)
      (next (Booked id units i.price) (with_booking units k id i.price who))
      else read_next (line_up c units k id who next))) new
      ∙ ap (λ b. cond b (next (Full id) who)
      (if nat_le units i.free then put_item k id (take_units units i) (next (Booked id units i.price) (with_booking units k id i.price who))
      else read_next (line_up c units k id who next))) few
      ∙ ap (λ b. cond b (put_item k id (take_units units i) (next (Booked id units i.price) (with_booking units k id i.price who)))
      (read_next (line_up c units k id who next))) b

pub item_differs : (k : Kind) (id : ℕ) (i j : Item) (next : SessionProgram) → is_same_item i j ≡ false
    → set_item k id (Some i) (Some j) next ≡ put_item k id j next
item_differs k id i j next e = ap (λ b. cond b next (put_item k id j next)) e
