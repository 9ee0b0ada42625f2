use Rattle.std.proofs.Common.{rules}
use Rattle.text_formats.proofs.PairLemmas.{uncut_pair, first_of_pair}
use Rattle.text_formats.proofs.pairs.pair.Goals as goal

-- src/number.rt:25:27
pub returns-in_err-first-clause-only : goal.returns-in_err-first-clause-only
returns-in_err-first-clause-only c p spelled = absurd (uncut_pair p _ _ c.split_once.ensures.cases c.in_err-first.was spelled)

-- src/number.rt:21:1
pub returns-clause-only : goal.returns-clause-only
returns-clause-only c p spelled = let
    parts = first_of_pair p _ _ c.in_ok-first.first c.in_ok-first.second c.split_once.ensures.cases (search rules) spelled
    in search (rules, c.number.ensures.only p.0 parts.0, c.number-2.ensures.only p.1 parts.1)
