use Rattle.std.proofs.Common.{◌≡◌, fold}
use Rattle.vac_model.specs.Tallies.{with_awaited, awaited_tally}
use Rattle.vac_model.proofs.tally.awaited_tally.Given as goal

abbrev pub invariant-loop-who : goal.invariant-loop-who
invariant-loop-who l = fold (λ t e. fold with_awaited t e.1.waits) l.tally l.who-iterator ≡ awaited_tally l.fn.tables
