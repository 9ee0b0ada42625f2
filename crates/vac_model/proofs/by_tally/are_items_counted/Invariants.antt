use Rattle.std.proofs.Common.{◌≡◌}
use Rattle.std.specs.List.{list_all}
use Rattle.std.specs.FinMap as map
use Rattle.vac_model.specs.Holdings.{of_kind}
use Rattle.vac_model.specs.Tallies.{is_item_tallied}
use Rattle.vac_model.proofs.by_tally.are_items_counted.Given as goal

abbrev pub invariant-loop-id : goal.invariant-loop-id
invariant-loop-id l = list_all (is_item_tallied l.fn.units) l.id-iterator
    ≡ list_all (is_item_tallied l.fn.units) (map.entries (of_kind l.fn.kind l.fn.tables.items))
