use Rattle.std.proofs.Common.{Some}
use Rattle.wolimevar.proofs.sessions.serve_at.Given as goal

-- the client is the one of this seat
abbrev pub ghosts-serve_as : goal.ghosts-serve_as
ghosts-serve_as g a = record { frame = Some (record { table = a.table.now; begun = Some a.seat }) }
