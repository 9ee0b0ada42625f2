-- A token that spells two numbers.
-- A decimal has no colon, so the token is cut at the one between the two.
use Rattle.std.proofs.Common.{rules, Option, None, Bor, lit<, arith, ◌≢◌, ◌≡◌, ℕ, Some, ◌<◌, ◌^◌, decimal, length, List}
use Rattle.std.specs.Option.{MatchOption}
use Rattle.std.proofs.lemmas.Str.Pattern.{IsSplitOnceResult, split_after}
use Rattle.std.proofs.lemmas.Str.Parse.{not_in_digits}
use Rattle.std.proofs.lemmas.Fmt.{digits_decimal}
use Rattle.text_formats.specs.Tokens.{IsNumber}
use Rattle.text_formats.proofs.NumberLemmas.{by_value}
use Rattle.text_formats.specs.ScriptTokens.{IsPair}
use lib.ListN.{get_or}

no_colon : (n : ℕ) → n < 2 ^ 64 → (i : ℕ) → i < length (decimal n) → get_or (decimal n) i 0 ≢ 58
no_colon n small = not_in_digits by_value (decimal n) 58 (digits_decimal by_value n small) (search (rules, arith))

cut_pair : (p : ℕ × ℕ) (bs : List ℕ) (r : Option (Bor (List ℕ) × Bor (List ℕ))) → IsSplitOnceResult 58 bs r → IsPair bs p
    → MatchOption r ⊥ (λ x. IsNumber x.0.now p.0 × IsNumber x.1.now p.1)
cut_pair p bs None h pair = split_after 58 bs (decimal p.0) (decimal p.1) None h (lit< tt) pair.2 (no_colon p.0 pair.0)
cut_pair p bs (Some x) h pair = let
    parts = split_after 58 bs (decimal p.0) (decimal p.1) (Some x) h (lit< tt) pair.2 (no_colon p.0 pair.0)
    in ((pair.0, parts.0), (pair.1, parts.1))

-- a pair is cut at its colon
pub uncut_pair : (p : ℕ × ℕ) (bs : List ℕ) (r : Option (Bor (List ℕ) × Bor (List ℕ))) → IsSplitOnceResult 58 bs r
    → r ≡ None → IsPair bs p → ⊥
uncut_pair p bs None h none pair = cut_pair p bs None h pair
uncut_pair p bs (Some x) h none pair = search rules

pub first_of_pair : (p : ℕ × ℕ) (bs : List ℕ) (r : Option (Bor (List ℕ) × Bor (List ℕ))) (first second : Bor (List ℕ))
    → IsSplitOnceResult 58 bs r → r ≡ Some (first, second) → IsPair bs p → IsNumber first.now p.0 × IsNumber second.now p.1
first_of_pair p bs r first second h some pair = rw some at (cut_pair p bs r h pair)
