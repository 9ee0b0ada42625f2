-- The tables in a state, read by the kinds of its collections and of their entries.
use Rattle.std.specs.Prelude.{ℕ, Bool, true, false, ◌&&◌, if◌then◌else◌, List, [], ◌∷◌, Option, Some, None, is_some, option_map}
use Rattle.std.specs.List.{filter_map, list_all}
use Rattle.std.specs.Ordering.{nat_cmp}
use Rattle.std.specs.FinMap.{FinMap, empty, entries}
use Rattle.seq_model.specs.Contents.{Contents}
use Rattle.seq_model.specs.Entries.{inserts}
use Rattle.seq_model.specs.declared.held.Held.{Held}
use Rattle.seq_model.specs.declared.held.Held.TheVariants.{Map, Queue}
use Rattle.vac_model.specs.declared.item.Item.{Item}
use Rattle.vac_model.specs.declared.item.Customer.{Customer}
use Rattle.vac_model.specs.declared.item.Ticket.{Ticket}
use Rattle.vac_model.specs.declared.each.Each.{Each}
use Rattle.vac_model.specs.declared.queue.Queue.{Queue as Line}
use Rattle.vac_model.specs.Holdings.{Holdings, empty_queue}
use Rattle.client_sessions.specs.declared.entry.Entry.{Entry}
use Rattle.client_sessions.specs.declared.entry.Entry.TheVariants.{Item as Stock, Customer as Client, Ticket as Slip}

-- ---- entries by their kind
abbrev pub item_of : Entry → Option Item
item_of (Stock i) = Some i
item_of _ = None

abbrev pub customer_of : Entry → Option Customer
customer_of (Client c) = Some c
customer_of _ = None

abbrev pub ticket_of : Entry → Option Ticket
ticket_of (Slip t) = Some t
ticket_of _ = None

-- the values of those that g reads
abbrev pub kept : {X : Type 0} → (Entry → Option X) → List (ℕ × Entry) → List (ℕ × X)
kept g es = filter_map (λ e. option_map (λ x. (e.0, x)) (g e.1)) es

-- ---- collections
-- whether it is a map, all of whose entries are of the kind that g reads
abbrev pub is_map_of : {X : Type 0} → (Entry → Option X) → Held Entry → Bool
is_map_of g (Map m) = list_all (λ e. is_some (g e.1)) (entries m)
is_map_of g _ = false

-- the values of that kind
abbrev pub among : {X : Type 0} → (Entry → Option X) → Held Entry → FinMap nat_cmp X
among g (Map m) = inserts empty (kept g (entries m))
among g _ = empty

abbrev pub is_queue : Held Entry → Bool
is_queue (Queue head items) = true
is_queue _ = false

abbrev pub line_of : Held Entry → Line
line_of (Queue head items) = record { head = head; tickets = items }
line_of _ = empty_queue

-- ---- the collections of a state
abbrev pub are_maps : Held Entry → Held Entry → Held Entry → Held Entry → Held Entry → Bool
are_maps cars flights rooms customers tickets =
    is_map_of item_of cars
    && (is_map_of item_of flights && (is_map_of item_of rooms && (is_map_of customer_of customers && is_map_of ticket_of tickets)))

abbrev pub are_queues : Held Entry → Held Entry → Held Entry → Bool
are_queues cars flights rooms = is_queue cars && (is_queue flights && is_queue rooms)

abbrev pub stock_among : Held Entry → Held Entry → Held Entry → Each (FinMap nat_cmp Item)
stock_among cars flights rooms = record { car = among item_of cars; flight = among item_of flights; room = among item_of rooms }

abbrev pub lines_of : Held Entry → Held Entry → Held Entry → Each Line
lines_of cars flights rooms = record { car = line_of cars; flight = line_of flights; room = line_of rooms }

-- the tables of one word and eight collections, where these are of their kinds
abbrev pub tables_in : List ℕ → List (Held Entry) → Option Holdings
tables_in (next ∷ []) (cars ∷ flights ∷ rooms ∷ customers ∷ tickets ∷ for_cars ∷ for_flights ∷ for_rooms ∷ []) =
    if are_maps cars flights rooms customers tickets && are_queues for_cars for_flights for_rooms
    then Some (record {
      items = stock_among cars flights rooms;
      customers = among customer_of customers;
      tickets = among ticket_of tickets;
      waiting = lines_of for_cars for_flights for_rooms;
      next = next;
    })
    else None
tables_in _ _ = None

abbrev pub tables_held : Contents Entry → Option Holdings
tables_held s = tables_in s.words s.held
