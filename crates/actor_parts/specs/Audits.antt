-- Records with their actors, as an audit takes them.
use Rattle.std.specs.Prelude.{ℕ, List, map}
use Rattle.seq_model.specs.declared.record.Record.{Record}

-- the records, without their actors
abbrev pub without_actors : {V : Type 0} → List (ℕ × Record V) → List (Record V)
without_actors rs = map (λ r. r.1) rs
