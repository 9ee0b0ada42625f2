use Rattle.std.proofs.Common.{◌≡◌}
use Rattle.seq_model.specs.Entries.{inserts}
use Rattle.client_sessions.specs.Parts.{among, item_of, kept}
use Rattle.client_sessions.proofs.state.items_of.Given as goal

abbrev pub invariant-loop-id : goal.invariant-loop-id
invariant-loop-id l = inserts l.items (kept item_of l.id-iterator) ≡ among item_of l.fn.held
