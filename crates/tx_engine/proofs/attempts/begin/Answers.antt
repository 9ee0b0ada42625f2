use Rattle.shared_table.specs.Seated.{opening_of}
use Rattle.tx_engine.proofs.GainLemmas.{aborts_first}
use Rattle.tx_engine.proofs.attempts.begin.Goals as goal

pub returns-clause-aborts : goal.returns-clause-aborts
returns-clause-aborts g c =
    aborts_first (opening_of c.args.table.now) c.args.seat.now.seat c.begin.new.self.seat c.begin.ensures.noted c.begin.ensures.same
