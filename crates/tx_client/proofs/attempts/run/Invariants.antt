use Rattle.std.proofs.Common.{Some}
use Rattle.tx_client.proofs.attempts.run.Given as goal

-- the transaction is the one that has just begun at this seat
abbrev pub ghosts-run_in : goal.ghosts-run_in
ghosts-run_in g a = record { frame = Some (record { table = a.table.now; begun = Some a.seat }) }
