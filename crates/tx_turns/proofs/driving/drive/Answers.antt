use Rattle.shared_table.specs.Seated.{opening_of}
use Rattle.tx_turns.proofs.DrivenLemmas.{driven_first}
use Rattle.tx_turns.proofs.driving.drive.Goals as goal

pub finish_from-requires-clause-come : goal.finish_from-requires-clause-come
finish_from-requires-clause-come g c =
    (c.args.seat.now, driven_first (opening_of c.args.table.now) c.args.seat.now c.requires.under)

pub returns-clause-driven : goal.returns-clause-driven
returns-clause-driven g c =
    c.finish_from.ensures.leads c.args.seat.now (driven_first (opening_of c.args.table.now) c.args.seat.now c.requires.under)
