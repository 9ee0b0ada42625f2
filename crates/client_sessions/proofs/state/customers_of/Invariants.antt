use Rattle.std.proofs.Common.{◌≡◌}
use Rattle.seq_model.specs.Entries.{inserts}
use Rattle.client_sessions.specs.Parts.{among, customer_of, kept}
use Rattle.client_sessions.proofs.state.customers_of.Given as goal

abbrev pub invariant-loop-number : goal.invariant-loop-number
invariant-loop-number l = inserts l.customers (kept customer_of l.number-iterator) ≡ among customer_of l.fn.held
