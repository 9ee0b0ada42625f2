use Rattle.wolimevar.proofs.SplitLemmas.{joined_unused}
use Rattle.wolimevar.proofs.seats.join_unused.Goals as goal

pub returns-clause-joined : goal.returns-clause-joined
returns-clause-joined g c =
    joined_unused c.args.table.now c.args.seat.now.seat c.join.new.self.seat c.args.own c.requires.unused c.join.ensures.both
    c.join.ensures.last c.join.ensures.asks
