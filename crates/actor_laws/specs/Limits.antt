-- Worlds whose bases hold what a state may hold.
use Rattle.std.specs.Prelude.{All}
use Rattle.seq_model.specs.Calls.{IsWithinLimits}
use Rattle.replay_log.specs.Worlds.{World, state}

-- what each base of the world holds is within the limits of a state
abbrev pub HoldsWithinLimits : {V : Type 0} → World V → Type 0
HoldsWithinLimits w = All IsWithinLimits (state w).held
