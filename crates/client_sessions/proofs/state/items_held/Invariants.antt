use Rattle.client_sessions.specs.declared.entry.Entry.TheVariants as entry
use Rattle.client_sessions.specs.Holding.{ArePutIn}
use Rattle.vac_model.specs.Holdings.{of_kind}
use Rattle.client_sessions.proofs.state.items_held.Given as goal

abbrev pub invariant-loop-id : goal.invariant-loop-id
invariant-loop-id l = ArePutIn entry.Item (of_kind l.fn.kind l.fn.tables.items) l.held l.id-iterator
