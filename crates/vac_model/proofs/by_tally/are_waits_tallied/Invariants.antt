use Rattle.std.proofs.Common.{◌≡◌, drop}
use Rattle.std.specs.List.{list_all}
use Rattle.vac_model.specs.Tallies.{is_wait_tallied}
use Rattle.vac_model.proofs.by_tally.are_waits_tallied.Given as goal

abbrev pub invariant-loop-wait : goal.invariant-loop-wait
invariant-loop-wait l = list_all (is_wait_tallied l.fn.tables l.fn.had l.fn.customer) (drop l.wait-index l.waits)
    ≡ list_all (is_wait_tallied l.fn.tables l.fn.had l.fn.customer) l.waits
