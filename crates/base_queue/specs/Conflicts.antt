-- What calls on a queue answer, read, write and change, in n stripes. Location 0 is the head, location 1 the tail, and the
-- others are the stripes, each with the cells whose indexes fall on it.
use Rattle.std.specs.Prelude.{ℕ, zero, suc, ◌+◌, ◌-◌, List, [], ◌∷◌, length, Option, Some, None, nat_lt, if◌then◌else◌, refl}
use Rattle.std.specs.Ordering.{nat_cmp}
use Rattle.std.specs.Coded.{Coded, code_by, coded_ℕ, coded×}
use Rattle.std.specs.FinMap.{FinMap, get, insert, remove, empty, values, code}
use Rattle.seq_model.specs.declared.call.Op.{Op}
use Rattle.seq_model.specs.declared.call.Op.TheVariants.{Enqueue, Dequeue, Peek, Len}
use Rattle.seq_model.specs.declared.call.Reply.{Reply}
use Rattle.seq_model.specs.declared.call.Reply.TheVariants.{Done, Full, Found, Number}
use Rattle.seq_model.specs.declared.held.Held.{Held}
use Rattle.seq_model.specs.declared.held.Held.TheVariants.{Queue}
use Rattle.seq_model.specs.declared.limits.TheConstants.{INDEX_LIMIT}
use Rattle.seq_model.specs.Calls.{found_reply}
use Rattle.conflict.specs.declared.change.Change.{Change}
use Rattle.conflict.specs.declared.change.Change.TheVariants as change
use Rattle.conflict.specs.declared.outcome.Outcome.{Outcome}
use Rattle.conflict.specs.declared.outcome.Note.{Note}
use Rattle.conflict.specs.declared.outcome.Note.TheVariants.{Plain, Index}
use Rattle.conflict.specs.Footprints.{queue_reads, queue_writes, head_location, tail_location, cell_location}
use Rattle.conflict.specs.Rules.{Rules}

-- the items by their indexes, the index of the first one, and the index that the next one gets
pub record Shown : Type 0 where
  pub cells : FinMap nat_cmp ℕ
  pub head : ℕ
  pub tail : ℕ

-- how a proof distinguishes what is shown
abbrev pub shown_code : Coded Shown
shown_code =
    code_by (FinMap nat_cmp ℕ × (ℕ × ℕ)) (coded× (code coded_ℕ coded_ℕ) (coded× coded_ℕ coded_ℕ))
    (λ s. (s.cells, (s.head, s.tail))) (λ p. record { cells = p.0; head = p.1.0; tail = p.1.1 }) (λ _. refl)

-- what the call answers
abbrev pub outcome_of : {V : Type 0} → Op V → Shown → Option (Outcome V)
outcome_of (Enqueue x) s =
    Some (if nat_lt s.tail INDEX_LIMIT then record { op = Enqueue x; reply = Done; note = Index s.tail } else record
    { op = Enqueue x; reply = Full; note = Plain })
outcome_of Dequeue s = Some (record { op = Dequeue; reply = found_reply (get s.cells s.head); note = Index s.head })
outcome_of Peek s = Some (record { op = Peek; reply = found_reply (get s.cells s.head); note = Index s.head })
outcome_of Len s = Some (record { op = Len; reply = Number (s.tail - s.head); note = Plain })
outcome_of _ s = None

-- the locations that it reads, and those that it writes
abbrev pub reads_of : {V : Type 0} → ℕ → Outcome V → List ℕ
reads_of n o = queue_reads n o.op o.note

abbrev pub writes_of : {V : Type 0} → ℕ → Outcome V → List ℕ
writes_of n o = queue_writes n o.op o.reply o.note

-- what it changes
abbrev pub changes_by : {V : Type 0} → Op V → Reply V → Note → List (Change V)
changes_by (Enqueue x) Done (Index t) = change.Enqueue t x ∷ []
changes_by Dequeue (Found x) (Index h) = change.Dequeue h ∷ []
changes_by _ _ _ = []

abbrev pub changes_of : {V : Type 0} → Outcome V → List (Change V)
changes_of o = changes_by o.op o.reply o.note

-- what one change makes; an index past the limit is no change
abbrev pub change_shown : {V : Type 0} → Shown → Change V → Shown
change_shown s (change.Enqueue t x) = if nat_lt t INDEX_LIMIT then record { cells = insert s.cells t x; head = s.head; tail = t + 1 } else s
change_shown s (change.Dequeue h) = if nat_lt h INDEX_LIMIT then record { cells = remove s.cells h; head = h + 1; tail = s.tail } else s
change_shown s _ = s

-- point 0 shows the head, point 1 the tail, and the others the cells
abbrev pub look : Shown → ℕ → Option ℕ
look s zero = Some s.head
look s (suc zero) = Some s.tail
look s (suc (suc index)) = get s.cells index

abbrev pub point_location : ℕ → ℕ → ℕ
point_location n zero = head_location
point_location n (suc zero) = tail_location
point_location n (suc (suc index)) = cell_location n index

-- items from this index on
abbrev pub cells_from : ℕ → List ℕ → FinMap nat_cmp ℕ
cells_from head [] = empty
cells_from head (x ∷ items) = insert (cells_from (suc head) items) head x

abbrev pub queue_view : ℕ → List ℕ → Shown
queue_view head items = record { cells = cells_from head items; head = head; tail = head + length items }

abbrev pub view_of : {V : Type 0} → Held V → Option Shown
view_of (Queue head items) = Some (queue_view head items)
view_of _ = None

abbrev pub rules : (V : Type 0) → Rules V Shown ℕ (Option ℕ)
rules V = record {
  outcome = outcome_of;
  reads = reads_of;
  writes = writes_of;
  locations = λ n. suc (suc n);
  changes = changes_of;
  change = change_shown;
  look = look;
  location = point_location;
  view_of = view_of;
  held_of = λ s. Queue s.head (values s.cells);
}
