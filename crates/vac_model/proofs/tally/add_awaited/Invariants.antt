use Rattle.std.proofs.Common.{◌≡◌, drop, fold}
use Rattle.vac_model.specs.Tallies.{with_awaited}
use Rattle.vac_model.proofs.tally.add_awaited.Given as goal

abbrev pub invariant-loop-wait : goal.invariant-loop-wait
invariant-loop-wait l = fold with_awaited l.tally (drop l.wait-index l.waits) ≡ fold with_awaited l.fn.tally l.waits
