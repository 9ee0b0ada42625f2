use Rattle.std.proofs.Common.{◌≡◌}
use Rattle.std.specs.Prelude.{is_some}
use Rattle.std.specs.List.{list_all}
use Rattle.client_sessions.specs.Parts.{customer_of, is_map_of}
use Rattle.client_sessions.proofs.state.are_customers.Given as goal

abbrev pub invariant-loop-entry : goal.invariant-loop-entry
invariant-loop-entry l = is_map_of customer_of l.fn.held ≡ list_all (λ e. is_some (customer_of e.1)) l.entry-iterator
