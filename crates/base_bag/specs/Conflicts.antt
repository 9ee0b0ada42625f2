-- What calls on a multiset answer, read, write and change, in n stripes of its elements.
use Rattle.std.specs.Prelude.{ℕ, List, [], ◌∷◌, Option, Some, None, ◌==◌, nat_lt, if◌then◌else◌}
use Rattle.std.specs.FinMap as map
use Rattle.seq_model.specs.declared.call.Op.{Op}
use Rattle.seq_model.specs.declared.call.Op.TheVariants.{Count, Add, Take}
use Rattle.seq_model.specs.declared.call.Reply.{Reply}
use Rattle.seq_model.specs.declared.call.Reply.TheVariants.{Done, Full, Number, Yes, No}
use Rattle.seq_model.specs.declared.held.Held.{Held}
use Rattle.seq_model.specs.declared.held.Held.TheVariants.{Bag}
use Rattle.seq_model.specs.declared.limits.TheConstants.{COPY_LIMIT}
use Rattle.seq_model.specs.Counts.{Multiset, copies}
use Rattle.conflict.specs.declared.change.Change.{Change}
use Rattle.conflict.specs.declared.change.Change.TheVariants as change
use Rattle.conflict.specs.declared.outcome.Outcome.{Outcome}
use Rattle.conflict.specs.declared.outcome.Note.TheVariants.{Plain}
use Rattle.conflict.specs.Footprints.{multiset_reads, multiset_writes, key_location}
use Rattle.conflict.specs.Multisets.{one_more, one_fewer}
use Rattle.conflict.specs.Rules.{Rules}

-- what the call answers
abbrev pub outcome_of : {V : Type 0} → Op V → Multiset → Option (Outcome V)
outcome_of (Count x) m = Some (record { op = Count x; reply = Number (copies m x); note = Plain })
outcome_of (Add x) m = Some (record { op = Add x; reply = if nat_lt (copies m x) COPY_LIMIT then Done else Full; note = Plain })
outcome_of (Take x) m = Some (record { op = Take x; reply = if copies m x == 0 then No else Yes; note = Plain })
outcome_of _ m = None

-- the locations that it reads, and those that it writes
abbrev pub reads_of : {V : Type 0} → ℕ → Outcome V → List ℕ
reads_of n o = multiset_reads n o.op

abbrev pub writes_of : {V : Type 0} → ℕ → Outcome V → List ℕ
writes_of n o = multiset_writes n o.op o.reply

-- what it changes
abbrev pub changes_by : {V : Type 0} → Op V → Reply V → List (Change V)
changes_by (Add x) Done = change.Add x ∷ []
changes_by (Take x) Yes = change.Take x ∷ []
changes_by _ _ = []

abbrev pub changes_of : {V : Type 0} → Outcome V → List (Change V)
changes_of o = changes_by o.op o.reply

-- what one change makes
abbrev pub change_multiset : {V : Type 0} → Multiset → Change V → Multiset
change_multiset m (change.Add x) = one_more m x
change_multiset m (change.Take x) = one_fewer m x
change_multiset m _ = m

-- a multiset is its own view
abbrev pub view_of : {V : Type 0} → Held V → Option Multiset
view_of (Bag m) = Some m
view_of _ = None

abbrev pub rules : (V : Type 0) → Rules V Multiset ℕ (Option ℕ)
rules V = record {
  outcome = outcome_of;
  reads = reads_of;
  writes = writes_of;
  locations = λ n. n;
  changes = changes_of;
  change = change_multiset;
  look = map.get;
  location = key_location;
  view_of = view_of;
  held_of = λ m. Bag m;
}
