-- Draws from the stream of a generator: each gives a value, and the stream that is left.
use Rattle.std.specs.Prelude.{ℕ, zero, suc, ◌+◌, ◌^◌, List, [], ◌∷◌}
use Rattle.rand_core.specs.Stream.{Stream, next_u64}
use Rattle.rand_core.specs.Steps.{stream_of, steps_u32}
use Rattle.rand_pcg.specs.Lcg.{started, increment_of}
use Rattle.rand_pcg.specs.Pcg.{multiplier_64, pcg32}
use Rattle.rand.specs.Uniform.{canon}

abbrev pub Draw : Type 0 → Type 0
Draw A = Stream → A × Stream

-- what the generator of a seed answers to a worker; the opening tables are worker 0's
abbrev pub stream_for : ℕ → ℕ → Stream
stream_for seed worker = stream_of (steps_u32 pcg32) (started 64 multiplier_64 seed (increment_of 64 worker))

-- a number below n
abbrev pub below : ℕ → Draw ℕ
below n s = canon (2 ^ 64) next_u64 n s

-- a number from 1 to n
abbrev pub up_to : ℕ → Draw ℕ
up_to n s = let d : ℕ × Stream = below n s in (1 + d.0, d.1)

-- n draws, one after another
abbrev pub times : {A : Type 0} → ℕ → Draw A → Draw (List A)
times zero draw s = ([], s)
times (suc n) draw s = ((draw s).0 ∷ (times n draw (draw s).1).0, (times n draw (draw s).1).1)
