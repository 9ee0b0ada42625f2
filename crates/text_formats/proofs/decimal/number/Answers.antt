use Rattle.std.proofs.Common.{arith, ap, sym, length, Some, lit<}
use Rattle.text_formats.proofs.NumberLemmas.{zero_found, zero_only, not_empty}
use Rattle.text_formats.proofs.decimal.number.Goals as goal

pub returns-then-eq-clause-found : goal.returns-then-eq-clause-found
returns-then-eq-clause-found c = (lit< tt, zero_found _ c.if-eq.ensures)

pub returns-then-eq-clause-only : goal.returns-then-eq-clause-only
returns-then-eq-clause-only c n spelled = ap Some (sym (zero_only n _ spelled.0 c.if-eq.ensures spelled.1))

-- a token that is empty spells no number
pub returns-in_default-clause-only : goal.returns-in_default-clause-only
returns-in_default-clause-only c n spelled =
    absurd (omega (arith, ap length c.as_bytes.ensures.value, not_empty n _ spelled.0 spelled.1, c.in_default.len_below))
