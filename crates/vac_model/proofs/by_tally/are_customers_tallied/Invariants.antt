use Rattle.std.proofs.Common.{◌≡◌}
use Rattle.std.specs.List.{list_all}
use Rattle.vac_model.specs.Tallies.{is_customer_tallied, are_customers_tallied}
use Rattle.vac_model.proofs.by_tally.are_customers_tallied.Given as goal

abbrev pub invariant-loop-customer : goal.invariant-loop-customer
invariant-loop-customer l = list_all (is_customer_tallied l.fn.tables) l.customer-iterator ≡ are_customers_tallied l.fn.tables
