-- What calls on a map answer, read, write and change, in n stripes of its keys.
use Rattle.std.specs.Prelude.{ℕ, List, [], ◌∷◌, Option, Some, None, option_map}
use Rattle.std.specs.Ordering.{nat_cmp}
use Rattle.std.specs.FinMap as map
use Rattle.seq_model.specs.declared.call.Op.{Op}
use Rattle.seq_model.specs.declared.call.Op.TheVariants.{Put, Remove}
use Rattle.seq_model.specs.declared.call.Reply.{Reply}
use Rattle.seq_model.specs.declared.call.Reply.TheVariants.{Value}
use Rattle.seq_model.specs.declared.held.Held.{Held}
use Rattle.seq_model.specs.declared.held.Held.TheVariants.{Map}
use Rattle.seq_model.specs.Calls.{map_call}
use Rattle.conflict.specs.declared.change.Change.{Change}
use Rattle.conflict.specs.declared.change.Change.TheVariants as change
use Rattle.conflict.specs.declared.outcome.Outcome.{Outcome}
use Rattle.conflict.specs.declared.outcome.Note.TheVariants.{Plain}
use Rattle.conflict.specs.Footprints.{map_reads, map_writes, key_location}
use Rattle.conflict.specs.Rules.{Rules}

-- what the call answers on these contents
abbrev pub outcome_of : {V : Type 0} → Op V → map.FinMap nat_cmp V → Option (Outcome V)
outcome_of op m = option_map (λ r. record { op = op; reply = r.0; note = Plain }) (map_call op m)

-- the locations that it reads, and those that it writes
abbrev pub reads_of : {V : Type 0} → ℕ → Outcome V → List ℕ
reads_of n o = map_reads n o.op

abbrev pub writes_of : {V : Type 0} → ℕ → Outcome V → List ℕ
writes_of n o = map_writes n o.op o.reply

-- what it changes
abbrev pub changes_by : {V : Type 0} → Op V → Reply V → List (Change V)
changes_by (Put k v) r = change.Put k v ∷ []
changes_by (Remove k) (Value old) = change.Remove k ∷ []
changes_by _ _ = []

abbrev pub changes_of : {V : Type 0} → Outcome V → List (Change V)
changes_of o = changes_by o.op o.reply

-- what one change makes
abbrev pub change_map : {V : Type 0} → map.FinMap nat_cmp V → Change V → map.FinMap nat_cmp V
change_map m (change.Put k v) = map.insert m k v
change_map m (change.Remove k) = map.remove m k
change_map m _ = m

-- a map is its own view
abbrev pub view_of : {V : Type 0} → Held V → Option (map.FinMap nat_cmp V)
view_of (Map m) = Some m
view_of _ = None

abbrev pub rules : (V : Type 0) → Rules V (map.FinMap nat_cmp V) ℕ (Option V)
rules V = record {
  outcome = outcome_of;
  reads = reads_of;
  writes = writes_of;
  locations = λ n. n;
  changes = changes_of;
  change = change_map;
  look = map.get;
  location = key_location;
  view_of = view_of;
  held_of = λ m. Map m;
}
