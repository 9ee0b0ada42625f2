-- The state that holds the tables: the next ticket as word 0; maps of cars, flights, rooms, customers and tickets; the queues of
-- cars, flights and rooms.
use Rattle.std.specs.Prelude.{◌≡◌, ℕ, ◌+◌, ◌≤◌, List, [], ◌∷◌, map, length}
use Rattle.std.specs.Ordering.{nat_cmp}
use Rattle.std.specs.FinMap.{FinMap, entries, from_entries}
use Rattle.seq_model.specs.Contents.{Contents}
use Rattle.seq_model.specs.Entries.{inserts}
use Rattle.seq_model.specs.declared.held.Held.TheVariants.{Map, Queue}
use Rattle.vac_model.specs.declared.queue.Queue.{Queue as Line}
use Rattle.vac_model.specs.declared.each.Each.{Each}
use Rattle.seq_model.specs.declared.limits.TheConstants.{INDEX_LIMIT}
use Rattle.vac_model.specs.declared.item.Kind.{Kind}
use Rattle.vac_model.specs.Holdings.{Holdings, queue}
use Rattle.client_sessions.specs.declared.entry.Entry.{Entry}
use Rattle.client_sessions.specs.declared.entry.Entry.TheVariants.{Item as Stock, Customer as Client, Ticket as Slip}

abbrev pub Entries : Type 0
Entries = FinMap nat_cmp Entry

-- the map with each value as an entry
abbrev pub as_entries : {X : Type 0} → (X → Entry) → FinMap nat_cmp X → Entries
as_entries f m = from_entries (map (λ e. (e.0, f e.1)) (entries m))

abbrev pub holding : ℕ → Each Entries → Entries → Entries → Each Line → Contents Entry
holding next items customers tickets waiting =
    record {
      words = next ∷ [];
      held =
          Map items.car ∷ Map items.flight ∷ Map items.room ∷ Map customers ∷ Map tickets
          ∷ Queue waiting.car.head waiting.car.tickets ∷ Queue waiting.flight.head waiting.flight.tickets
          ∷ Queue waiting.room.head waiting.room.tickets ∷ [];
    }

abbrev pub stock_of : Holdings → Each Entries
stock_of s = record { car = as_entries Stock s.items.car; flight = as_entries Stock s.items.flight; room = as_entries Stock s.items.room }

abbrev pub state_of : Holdings → Contents Entry
state_of s = holding s.next (stock_of s) (as_entries Client s.customers) (as_entries Slip s.tickets) s.waiting

-- The indexes of the queues are within the limit of a state, as they are in balanced tables.
abbrev pub HaveIndexes : Holdings → Type 0
HaveIndexes s = (k : Kind) → (queue k s).head + length (queue k s).tickets ≤ INDEX_LIMIT

-- These are the entries of a part of the map, to which those that are left are inserted one after another.
pub record ArePutIn {X : Type 0} (f : X → Entry) (m : FinMap nat_cmp X) (held : Entries) (left : List (ℕ × X)) : Type 0 where
  pub part : FinMap nat_cmp X
  pub are : held ≡ as_entries f part
  pub rest : inserts part left ≡ m

-- The state is that of some tables.
pub record HoldsTables (s : Contents Entry) : Type 0 where
  pub tables : Holdings
  pub are : s ≡ state_of tables
