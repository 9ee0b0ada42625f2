use Rattle.tx_engine.proofs.AbortedLemmas.{sees_one_state}
use Rattle.tx_engine.proofs.laws.open_transactions_see_one_state.Goals as goal

pub returns : goal.returns
returns g c t u = sees_one_state t (c.tables_show_their_seats.ensures t.whole.shared.key) u.seat
