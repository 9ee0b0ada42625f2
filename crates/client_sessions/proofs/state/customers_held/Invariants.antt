use Rattle.client_sessions.specs.declared.entry.Entry.TheVariants as entry
use Rattle.client_sessions.specs.Holding.{ArePutIn}
use Rattle.client_sessions.proofs.state.customers_held.Given as goal

abbrev pub invariant-loop-number : goal.invariant-loop-number
invariant-loop-number l = ArePutIn entry.Customer l.fn.tables.customers l.held l.number-iterator
