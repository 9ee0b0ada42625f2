-- Changes that stand beside the tables: what the tables are with them made.
use Rattle.std.specs.Prelude.{◌≡◌, ◌≢◌, ℕ, ◌+◌, List, [], ◌∷◌, ◌++◌, drop, fold, Option, Some, None}
use Rattle.std.specs.Ordering.{nat_cmp}
use Rattle.std.specs.FinMap as map
use Rattle.vac_model.specs.declared.each.Each.{Each}
use Rattle.vac_model.specs.declared.queue.Queue.{Queue}
use Rattle.vac_model.specs.declared.moves.Moves.{Moves}
use Rattle.vac_model.specs.declared.changes.TableChanges.{TableChanges}
use Rattle.vac_model.specs.Holdings.{Holdings, everywhere}

module _ {V : Type 0} where
  -- the map with this at a key, or with nothing there
  abbrev pub placed : map.FinMap nat_cmp V → ℕ → Option V → map.FinMap nat_cmp V
  placed m k None = map.remove m k
  placed m k (Some v) = map.insert m k v

  -- one after another
  abbrev pub laid_by : map.FinMap nat_cmp V → List (ℕ × Option V) → map.FinMap nat_cmp V
  laid_by m [] = m
  laid_by m (e ∷ es) = laid_by (placed m e.0 e.1) es

  -- the map with changes made
  abbrev pub laid : map.FinMap nat_cmp V → map.FinMap nat_cmp (Option V) → map.FinMap nat_cmp V
  laid m changes = laid_by m (map.entries changes)

  -- without these keys
  abbrev pub without : map.FinMap nat_cmp V → List ℕ → map.FinMap nat_cmp V
  without m ks = fold map.remove m ks

  -- each key that is to have a value has one
  abbrev pub HasPlaces : map.FinMap nat_cmp V → map.FinMap nat_cmp (Option V) → Type 0
  HasPlaces m changes = (k : ℕ) (v : V) → map.get changes k ≡ Some (Some v) → map.get m k ≢ None

  -- the keys that are not changed have what they had
  abbrev pub AreElsewhereAlike : map.FinMap nat_cmp (Option V) → map.FinMap nat_cmp V → map.FinMap nat_cmp V → Type 0
  AreElsewhereAlike changes m n = (k : ℕ) → map.get changes k ≡ None → map.get n k ≡ map.get m k

-- a queue from whose front tickets are taken off, and at whose end others are given out
abbrev pub moved : Queue → Moves → Queue
moved line moves = record { head = line.head + moves.off; tickets = drop moves.taken line.tickets ++ moves.given }

abbrev pub laid_each : {V : Type 0} → Each (map.FinMap nat_cmp V) → Each (map.FinMap nat_cmp (Option V)) → Each (map.FinMap nat_cmp V)
laid_each m c = record { car = laid m.car c.car; flight = laid m.flight c.flight; room = laid m.room c.room }

abbrev pub moved_each : Each Queue → Each Moves → Each Queue
moved_each lines moves = record {
  car = moved lines.car moves.car;
  flight = moved lines.flight moves.flight;
  room = moved lines.room moves.room;
}

-- the tables with changes made
abbrev pub with_changes : Holdings → TableChanges → Holdings
with_changes s c =
    record {
      items = laid_each s.items c.items;
      customers = laid s.customers c.customers;
      tickets = laid s.tickets c.tickets;
      waiting = moved_each s.waiting c.waiting;
      next = c.next;
    }

-- nothing changed yet, where this is the next ticket
abbrev pub no_moves : Moves
no_moves = record { off = 0; taken = 0; given = [] }

abbrev pub no_changes : ℕ → TableChanges
no_changes next =
    record { items = everywhere map.empty; customers = map.empty; tickets = map.empty; waiting = everywhere no_moves; next = next }
