-- Pairs of numbers as the tokens of a text, and numbers of 32 bits.
use Rattle.std.specs.Prelude.{◌≡◌, ℕ, ◌<◌, ◌-◌, ◌^◌, min, List, ◌++◌, codes}
use Rattle.std.specs.Fmt.{decimal}

-- two numbers with a colon between
abbrev pub IsPair : List ℕ → ℕ × ℕ → Type 0
IsPair token p = (p.0 < 2 ^ 64) × (p.1 < 2 ^ 64) × (token ≡ decimal p.0 ++ (codes ":" ++ decimal p.1))

-- a number in 32 bits: one that doesn't fit is the greatest, which is above each limit of its kind
abbrev pub narrowed : ℕ → ℕ
narrowed n = min n (2 ^ 32 - 1)
