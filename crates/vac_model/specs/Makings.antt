-- The two halves in which changes are made: what is added, and what is settled then.
use Rattle.std.specs.Prelude.{◌≡◌, ◌≤◌, ℕ, ◌+◌, List, [], ◌++◌, length, take, drop, min, Option}
use Rattle.std.specs.Ordering.{nat_cmp}
use Rattle.std.specs.FinMap as map
use Rattle.vac_model.specs.declared.each.Each.{Each}
use Rattle.vac_model.specs.declared.item.Item.{Item}
use Rattle.vac_model.specs.declared.queue.Queue.{Queue}
use Rattle.vac_model.specs.declared.moves.Moves.{Moves}
use Rattle.vac_model.specs.declared.changes.TableChanges.{TableChanges}
use Rattle.vac_model.specs.declared.making.Added.{Added}
use Rattle.vac_model.specs.declared.limits.TheConstants.{TICKET_LIMIT}
use Rattle.vac_model.specs.Holdings.{Holdings, everywhere}
use Rattle.vac_model.specs.Overlays.{laid, laid_each, without, HasPlaces, AreElsewhereAlike}

abbrev pub Stock : Type 0
Stock = Each (map.FinMap nat_cmp Item)

abbrev pub StockChanges : Type 0
StockChanges = Each (map.FinMap nat_cmp (Option Item))

-- ---- each kind
abbrev pub each_without : Stock → Each (List ℕ) → Stock
each_without m a = record { car = without m.car a.car; flight = without m.flight a.flight; room = without m.room a.room }

abbrev pub AreEachAlike : StockChanges → Stock → Stock → Type 0
AreEachAlike c m n =
    AreElsewhereAlike c.car m.car n.car × AreElsewhereAlike c.flight m.flight n.flight × AreElsewhereAlike c.room m.room n.room

abbrev pub HaveEachPlaces : Stock → StockChanges → Type 0
HaveEachPlaces m c = HasPlaces m.car c.car × HasPlaces m.flight c.flight × HasPlaces m.room c.room

-- ---- queues
abbrev pub lens : Each Queue → Each ℕ
lens q = record { car = length q.car.tickets; flight = length q.flight.tickets; room = length q.room.tickets }

-- a queue's first tickets, so many of them
abbrev pub cut : Queue → ℕ → Queue
cut q n = record q { tickets = take n q.tickets }

abbrev pub each_cut : Each Queue → Each ℕ → Each Queue
each_cut q n = record { car = cut q.car n.car; flight = cut q.flight n.flight; room = cut q.room n.room }

-- with the tickets that are given out
abbrev pub extended : Queue → Moves → Queue
extended q m = record q { tickets = q.tickets ++ m.given }

abbrev pub each_extended : Each Queue → Each Moves → Each Queue
each_extended q m = record { car = extended q.car m.car; flight = extended q.flight m.flight; room = extended q.room m.room }

-- without those that are taken off, of the queue's own ones, so many
abbrev pub without_taken : Queue → Moves → ℕ → Queue
without_taken q m n = record { head = q.head + m.off; tickets = drop (min m.taken n) q.tickets }

abbrev pub each_without_taken : Each Queue → Each Moves → Each ℕ → Each Queue
each_without_taken q m n =
    record {
      car = without_taken q.car m.car n.car;
      flight = without_taken q.flight m.flight n.flight;
      room = without_taken q.room m.room n.room;
    }

-- ---- the tables
abbrev pub nothing_added : Holdings → Added
nothing_added s = record { items = everywhere []; customers = []; tickets = []; lens = lens s.waiting }

-- without what was added
abbrev pub taken_back : Holdings → Added → Holdings
taken_back s a =
    record {
      items = each_without s.items a.items;
      customers = without s.customers a.customers;
      tickets = without s.tickets a.tickets;
      waiting = each_cut s.waiting a.lens;
      next = s.next;
    }

-- each entry that is to have a value has its place
pub record HasAllPlaces (c : TableChanges) (s : Holdings) : Type 0 where
  pub items : HaveEachPlaces s.items c.items
  pub customers : HasPlaces s.customers c.customers
  pub tickets : HasPlaces s.tickets c.tickets

-- what is new was added, and else nothing was changed
pub record IsAdmitted (c : TableChanges) (s t : Holdings) : Type 0 where
  pub places : HasAllPlaces c t
  pub items : AreEachAlike c.items s.items t.items
  pub customers : AreElsewhereAlike c.customers s.customers t.customers
  pub tickets : AreElsewhereAlike c.tickets s.tickets t.tickets
  pub waiting : t.waiting ≡ each_extended s.waiting c.waiting

-- no queue's head gets too high
abbrev pub AreHeadsWithin : Holdings → TableChanges → Type 0
AreHeadsWithin s c =
    (s.waiting.car.head + c.waiting.car.off ≤ TICKET_LIMIT)
    × (s.waiting.flight.head + c.waiting.flight.off ≤ TICKET_LIMIT)
    × (s.waiting.room.head + c.waiting.room.off ≤ TICKET_LIMIT)

abbrev pub settled : Holdings → TableChanges → Each ℕ → Holdings
settled s c n =
    record {
      items = laid_each s.items c.items;
      customers = laid s.customers c.customers;
      tickets = laid s.tickets c.tickets;
      waiting = each_without_taken s.waiting c.waiting n;
      next = c.next;
    }
