-- What a call on a key reads and writes: the location of the key.
use Rattle.std.specs.Prelude.{ℕ, List, [], ◌∷◌, if◌then◌else◌}
use Rattle.shadow.specs.declared.memo.KeyLocation.{KeyLocation}

-- what it writes
abbrev pub written_there : KeyLocation → List ℕ
written_there at = if at.written then at.location ∷ [] else []
