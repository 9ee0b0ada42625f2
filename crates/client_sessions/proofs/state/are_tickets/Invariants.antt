use Rattle.std.proofs.Common.{◌≡◌}
use Rattle.std.specs.Prelude.{is_some}
use Rattle.std.specs.List.{list_all}
use Rattle.client_sessions.specs.Parts.{ticket_of, is_map_of}
use Rattle.client_sessions.proofs.state.are_tickets.Given as goal

abbrev pub invariant-loop-entry : goal.invariant-loop-entry
invariant-loop-entry l = is_map_of ticket_of l.fn.held ≡ list_all (λ e. is_some (ticket_of e.1)) l.entry-iterator
