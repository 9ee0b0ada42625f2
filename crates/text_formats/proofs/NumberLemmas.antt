-- A token that spells a number.
-- What is parsed of a text that begins with 1 to 9 is the number of which the text is the decimal; a number other than 0 begins so,
-- and 0 has a text of its own. So a token spells one number at most, and the parser finds it.
use Rattle.std.proofs.Common.{rules, arith, lit<, ap, sym, ◌∙◌, ◌≡◌, ◌<◌, ◌^◌, ℕ, zero, suc, true, false, decimal, List, [], ◌∷◌, length}
use Rattle.std.proofs.Common.{IfSome, Some, Result, Ok, Err}
use Rattle.std.specs.Int.{IsInRange}
use Rattle.std.specs.Str.{bytes_eq}
use Rattle.std.specs.Str.Parse.{ParsesUnsigned, AllDigits, digits_value}
use Rattle.std.specs.Result.{result_ok, OkIff}
use Rattle.std.proofs.lemmas.Str.Parse.{IsNumeralModel, numerals_by_value, tells_digits, parse_plain, digit_at}
use Rattle.std.proofs.lemmas.Fmt.{decimal-digits_value, digits_decimal, decimal_nonempty, first_decimal, parse-decimal, decimal_digit}
use Rattle.std.proofs.lemmas.Fmt.{decimal_injective}
use Rattle.std.proofs.lemmas.Slice.Eq.{bytes_eq-Decides}
use lib.ListN.{get_or}

-- how the parser reads numerals
pub by_value : IsNumeralModel (AllDigits 10) (digits_value 10)
by_value = numerals_by_value _ tells_digits

-- ---- a text that begins with 1 to 9
found : {E : Type 0} (token : List ℕ) (r : Result ℕ E)
    → OkIff r (AllDigits 10 token × (0 < length token) × (digits_value 10 token < 2 ^ 64)) (digits_value 10 token)
    → IsInRange 49 57 (get_or token 0 0) → IfSome (result_ok r) (λ n. token ≡ decimal n)
found token (Err e) h lead = search rules
found token (Ok n) h lead = search (rules, decimal-digits_value by_value token h.0.0 h.0.1 (omega (arith, lead)) h.0.2)

pub parsed : {E : Type 0} (token : List ℕ) (r : Result ℕ E) → ParsesUnsigned 64 10 token r
    → IsInRange 49 57 (get_or token 0 0) → IfSome (result_ok r) (λ n. token ≡ decimal n)
parsed token r h lead = found token r (parse_plain by_value 64 token r h (omega (arith, lead))) lead

pub first_byte : (n : ℕ) → n < 2 ^ 64 → 0 < n → IsInRange 49 57 (get_or (decimal n) 0 0)
first_byte n small positive =
    search (rules, digit_at (decimal n) 0 (digits_decimal by_value n small) (decimal_nonempty n small), first_decimal n positive small)

-- ---- the text of 0
zero_text : decimal 0 ≡ 48 ∷ []
zero_text = decimal_digit 0 (lit< tt)

equal : (xs ys : List ℕ) → bytes_eq xs ys ≡ true → xs ≡ ys
equal xs ys e = search (rules, bytes_eq-Decides xs ys)

pub zero_found : (token : List ℕ) → true ≡ bytes_eq token (48 ∷ []) → token ≡ decimal 0
zero_found token e = equal token (48 ∷ []) (sym e) ∙ sym zero_text

pub zero_only : (n : ℕ) (token : List ℕ) → n < 2 ^ 64 → true ≡ bytes_eq token (48 ∷ []) → token ≡ decimal n → n ≡ 0
zero_only n token small e spelled = decimal_injective n 0 small (lit< tt) (sym spelled ∙ zero_found token e)

-- ---- the text of any number
pub lead_digit : (n : ℕ) (token : List ℕ) → n < 2 ^ 64 → token ≡ decimal n → false ≡ bytes_eq token (48 ∷ [])
    → IsInRange 49 57 (get_or token 0 0)
lead_digit zero token small e differs = search (rules, e ∙ zero_text)
lead_digit (suc n) token small e differs = rw e (first_byte (suc n) small (omega arith))

pub parses : {E : Type 0} (n : ℕ) (token : List ℕ) (r : Result ℕ E) → n < 2 ^ 64 → token ≡ decimal n
    → ParsesUnsigned 64 10 token r → result_ok r ≡ Some n
parses n token r small e h = ap result_ok (parse-decimal 64 n token r small small e h)

pub not_empty : (n : ℕ) (token : List ℕ) → n < 2 ^ 64 → token ≡ decimal n → 0 < length token
not_empty n token small e = rw e (decimal_nonempty n small)
