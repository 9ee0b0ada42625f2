use Rattle.std.proofs.Common.{◌≡◌}
use Rattle.seq_model.specs.Entries.{inserts}
use Rattle.client_sessions.specs.Parts.{among, ticket_of, kept}
use Rattle.client_sessions.proofs.state.tickets_of.Given as goal

abbrev pub invariant-loop-number : goal.invariant-loop-number
invariant-loop-number l = inserts l.tickets (kept ticket_of l.number-iterator) ≡ among ticket_of l.fn.held
