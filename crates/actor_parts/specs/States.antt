-- What the bases of a table hold.
use Rattle.std.specs.Prelude.{List, map}
use Rattle.seq_model.specs.declared.held.Held.{Held}
use Rattle.replay_log.specs.Base.{held_of, shown_of}
use Rattle.actor_parts.specs.declared.table.Table.{Table}

-- what each base holds
abbrev pub held_in : {V : Type 0} → Table V → List (Held V)
held_in t = map (λ base. held_of (shown_of base)) t.bases.items
