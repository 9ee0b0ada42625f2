use Rattle.shared_table.specs.Seated.{opening_of}
use Rattle.tx_engine.proofs.SeatLemmas.{holds_nothing, is_calm}
use Rattle.tx_engine.proofs.laws.ready_seats_hold_nothing.Goals as goal

pub returns : goal.returns
returns g c t u ready = holds_nothing (opening_of t) u.seat ready.ties.reached (is_calm (opening_of t) u.seat ready.between)
