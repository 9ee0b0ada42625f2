use Rattle.std.proofs.Common.{◌≡◌, drop, fold}
use Rattle.vac_model.specs.Tallies.{with_wait}
use Rattle.vac_model.proofs.tally.add_waits.Given as goal

abbrev pub invariant-loop-wait : goal.invariant-loop-wait
invariant-loop-wait l = fold (with_wait l.fn.kind) l.tally (drop l.wait-index l.waits)
    ≡ fold (with_wait l.fn.kind) l.fn.tally l.waits
