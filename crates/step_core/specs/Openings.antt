-- The limits of an opening.
use Rattle.std.specs.Prelude.{ℕ, Option, Some, None, nat_le, ◌&&◌, if◌then◌else◌}
use Rattle.tx_machine.specs.Actor.{clock_limit}
use Rattle.step_core.specs.declared.answer.WordRefusal.{WordRefusal}
use Rattle.step_core.specs.declared.answer.WordRefusal.TheVariants.{TooLong}

-- the most locations
abbrev pub location_limit : ℕ
location_limit = 1048576

-- why an opening is refused, memory aside
abbrev pub opening_refusal : ℕ → ℕ → Option WordRefusal
opening_refusal clock count = if nat_le clock clock_limit && nat_le count location_limit then None else Some TooLong
