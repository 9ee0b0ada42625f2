-- How many stripes the collections of the reservation tables have in a world.
use Rattle.std.specs.Prelude.{ℕ, List, [], ◌∷◌}

-- each of the five maps and three queues has so many stripes
abbrev pub eight : ℕ → List ℕ
eight n = n ∷ n ∷ n ∷ n ∷ n ∷ n ∷ n ∷ n ∷ []
