-- Why what was asked is refused, where more than one cause is known to the caller.
use Rattle.seq_model.specs.declared.refusal.Refusal.{Refusal}
use Rattle.seq_model.specs.declared.refusal.Refusal.TheVariants.{Moved, Busy, Stale, GateBusy}
use Rattle.seq_model.specs.declared.refusal.Refusal.TheVariants.{Invalid, NoSuch, TooLong, Memory as OutOfMemory}

-- it is TooLong exactly where what was asked does not fit, and else an allocation failed
abbrev pub IsTooLong : Refusal → Type 0 → Type 0
IsTooLong TooLong fits = ¬ fits
IsTooLong OutOfMemory fits = fits
IsTooLong _ fits = ⊥

-- it is NoSuch exactly where what was asked is of another kind, else TooLong exactly where it does not fit, and else an
-- allocation failed
abbrev pub IsNoSuchOrTooLong : Refusal → Type 0 → Type 0 → Type 0
IsNoSuchOrTooLong NoSuch other fits = other
IsNoSuchOrTooLong TooLong other fits = (¬ other) × (¬ fits)
IsNoSuchOrTooLong OutOfMemory other fits = (¬ other) × fits
IsNoSuchOrTooLong _ other fits = ⊥

-- another transaction stood in the way, so another attempt may succeed
abbrev pub IsConflict : Refusal → Type 0
IsConflict (Moved _ _) = Unit {0}
IsConflict (Busy _ _) = Unit {0}
IsConflict (Stale _ _ _) = Unit {0}
IsConflict (GateBusy _) = Unit {0}
IsConflict (Invalid _ _) = Unit {0}
IsConflict _ = ⊥
