use Rattle.std.proofs.Common.{◌≡◌, fold}
use Rattle.vac_model.specs.Tallies.{with_units, units_tally}
use Rattle.vac_model.proofs.tally.units_tally.Given as goal

abbrev pub invariant-loop-who : goal.invariant-loop-who
invariant-loop-who l = fold (λ t e. fold (with_units l.fn.kind) t e.1.bookings) l.tally l.who-iterator ≡ units_tally l.fn.kind l.fn.tables
