-- What a world shows to its callers.
use Rattle.std.specs.Prelude.{Bool}
use Rattle.step_world.specs.declared.parts.Parts.{Parts}

-- its parts; or an allocation failed in an event, and the world answers Memory from then on
pub record WorldShown (V : Type 0) : Type 0 where
  pub failed : Bool
  pub parts : Parts V
