-- Which calls change what they are made on.
use Rattle.std.specs.Prelude.{Bool, true, false}
use Rattle.seq_model.specs.declared.call.Op.{Op}
use Rattle.seq_model.specs.declared.call.Op.TheVariants.{Write, Put, Remove, Add, Take, Insert, TakeLeast, Enqueue, Dequeue}
use Rattle.seq_model.specs.declared.call.Reply.{Reply}
use Rattle.seq_model.specs.declared.call.Reply.TheVariants.{Done, Value, Found, Yes}

-- whether a call with this reply writes something
abbrev pub changes : {V : Type 0} → Op V → Reply V → Bool
changes (Write x) r = true
changes (Put k v) r = true
changes (Remove k) (Value v) = true
changes (Add x) Done = true
changes (Take x) Yes = true
changes (Insert x) Done = true
changes TakeLeast (Found x) = true
changes (Enqueue x) Done = true
changes Dequeue (Found x) = true
changes op r = false
