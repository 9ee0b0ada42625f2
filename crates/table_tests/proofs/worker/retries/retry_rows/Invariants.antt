use Rattle.tx_engine.specs.Ready.{IsReady}
use Rattle.table_tests.proofs.worker.retries.retry_rows.Given as goal

abbrev pub invariant-rows : goal.invariant-rows
invariant-rows g l = IsReady l.table l.seat
