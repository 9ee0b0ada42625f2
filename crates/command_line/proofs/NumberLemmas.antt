-- What a text is read as: where it is a numeral that 64 bits hold `parse` gives its number, and else it gives none.
use Rattle.std.proofs.Common.{◌≡◌, ◌^◌, ℕ, Bool, true, false, List, Result, Ok, Err, refl, sym, arith}
use Rattle.std.specs.Str.Parse.{ParsesUnsigned}
use Rattle.clap.specs.ValueTests.{is_unsigned_in}
use Rattle.clap.specs.declared.builder.value_parser.ValueParser.TheVariants.{Unsigned}
use Rattle.clap.proofs.ValueTestLemmas.{Accepts-accepts, accepts-Accepts}
use Rattle.command_line.specs.Numbers.{number_of_text}

-- what `parse` gives, and 0 where that is an error
abbrev pub or_zero : {E : Type 0} → Result ℕ E → ℕ
or_zero (Ok n) = n
or_zero (Err e) = 0

pub read_is : {E : Type 0} (text : List ℕ) (r : Result ℕ E) → ParsesUnsigned 64 10 text r → number_of_text text ≡ or_zero r
read_is text (Ok n) h = rw (Accepts-accepts false (Unsigned 0 (2 ^ 64)) text (h.0.0, h.0.1, omega arith, omega (arith, h.0.1))) (sym h.1)
read_is text (Err e) h = by (is_unsigned_in 0 (2 ^ 64) text) refl
  where
    by : (b : Bool) → is_unsigned_in 0 (2 ^ 64) text ≡ b → number_of_text text ≡ 0
    by true is = let a = accepts-Accepts false (Unsigned 0 (2 ^ 64)) text is in absurd (h (a.0, a.1))
    by false is = rw is refl
