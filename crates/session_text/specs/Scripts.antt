-- What a script opens, and why its opening is refused.
use Rattle.std.specs.Prelude.{◌≡◌, ◌⊎◌, ℕ, List, map, All, ⊤}
use Rattle.seq_model.specs.declared.refusal.Refusal.{Refusal}
use Rattle.seq_model.specs.declared.refusal.Refusal.TheVariants.{TooLong, Memory as OutOfMemory}
use Rattle.seq_model.specs.Calls.{IsWithinLimits}
use Rattle.seq_model.specs.Refusals.{IsTooLong}
use Rattle.seq_model.specs.Contents.{Contents}
use Rattle.text_formats.specs.declared.script.Script.{Script}
use Rattle.replay_log.specs.Worlds.{World}
use Rattle.actor_parts.specs.Openings.{IsWithin, world_of}

-- the words and the collections of the script's header
abbrev pub opening_of : Script → Contents ℕ
opening_of script = record { words = script.words; held = map (λ c. c.held) script.collections }

abbrev pub stripes_of : Script → List ℕ
stripes_of script = map (λ c. c.stripes) script.collections

pub record IsOpeningOf (script : Script) (opening : Contents ℕ) : Type 0 where
  pub words : opening.words ≡ script.words
  pub held : opening.held ≡ map (λ c. c.held) script.collections

-- the world that the header opens on this state
abbrev pub world_in : Script → Contents ℕ → World ℕ
world_in script opening = world_of (stripes_of script) script.clock opening

-- its collections are refused: one is beyond its limits, or an allocation failed
abbrev pub HasRefusedCollections : Script → Refusal → Type 0
HasRefusedCollections script TooLong = ¬ All IsWithinLimits (opening_of script).held
HasRefusedCollections script OutOfMemory = ⊤
HasRefusedCollections script refusal = ⊥

-- they are, or its world refuses the opening: TooLong where it is beyond the limits of a world, else as an allocation fails
abbrev pub IsRefusedScript : Script → Refusal → Type 0
IsRefusedScript script refusal =
    HasRefusedCollections script refusal
    ⊎ (All IsWithinLimits (opening_of script).held × IsTooLong refusal (IsWithin (stripes_of script) script.clock (opening_of script)))
