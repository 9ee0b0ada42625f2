use Rattle.tx_engine.proofs.ReadyLemmas.{new_ready}
use Rattle.tx_turns.specs.Ties.{laid_in}
use Rattle.tx_engine.proofs.seats.TxSeat.new.Goals as goal

pub returns-clause-ready : goal.returns-clause-ready
returns-clause-ready g c =
    new_ready c.args.table.now _ c.requires.opened c.requires.new c.new.ensures.seat c.new.ensures.stage c.new.ensures.words
    (c.new.ensures.running (laid_in c.args.table.now))
