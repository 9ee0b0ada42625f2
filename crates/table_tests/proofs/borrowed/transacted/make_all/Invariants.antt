use Rattle.std.proofs.Common.{◌≡◌}
use Rattle.tx_engine.specs.Ready.{HasBegunSince, IsReady}
use Rattle.table_tests.proofs.borrowed.transacted.make_all.Given as goal

-- the transaction runs at the same seat and table, which is ready
abbrev pub invariant-calls : goal.invariant-calls
invariant-calls g l = record {
  same_reference : l.tx.seat.ghost_name ≡ l.initial.tx.seat.ghost_name;
  same_table : l.tx.table.now ≡ l.initial.tx.table.now;
  ready : IsReady l.tx.table.now l.tx.seat.now;
  since : HasBegunSince l.tx.table.now l.tx.seat.now;
}
