use Rattle.tx_engine.proofs.ShownLemmas.{shows_seats}
use Rattle.tx_engine.proofs.laws.tables_show_their_seats.Goals as goal

pub returns : goal.returns
returns g c opening s rule = shows_seats c.worlds_are_serial.ensures opening s rule
