-- Why there is no session, and why there are no tables.
use Rattle.seq_model.specs.declared.refusal.Refusal.{Refusal}
use Rattle.seq_model.specs.declared.refusal.Refusal.TheVariants.{NoSuch, TooLong, Memory as OutOfMemory}

-- a refused action is TooLong exactly where P, and else an allocation failed
abbrev pub IsSessionRefusal : Refusal → Type 0 → Type 0
IsSessionRefusal TooLong P = P
IsSessionRefusal OutOfMemory P = ¬ P
IsSessionRefusal _ P = ⊥

-- it is NoSuch exactly where P fails, and else an allocation failed
abbrev pub IsNoneSuch : Refusal → Type 0 → Type 0
IsNoneSuch NoSuch P = ¬ P
IsNoneSuch OutOfMemory P = P
IsNoneSuch _ P = ⊥
