use Rattle.std.proofs.Common.{◌∙◌, refl}
use Rattle.shared_table.specs.Seated.{opening_of}
use Rattle.tx_engine.proofs.ReadyLemmas.{noted_stands, only_knows, stays_standing}
use Rattle.tx_engine.proofs.seats.TxSeat.learn.Goals as goal

pub returns-then-clock-number-clause-stays : goal.returns-then-clock-number-clause-stays
returns-then-clock-number-clause-stays g c =
    stays_standing (opening_of c.args.table.now) c.args.self.now.seat c.look-clock.new.seat c.look-clock.ensures.same.1
    c.look-clock.ensures.acts

pub returns-then-clock-number-clause-knows : goal.returns-then-clock-number-clause-knows
returns-then-clock-number-clause-knows g c =
    only_knows (opening_of c.args.table.now) c.args.self.now.seat c.look-clock.new.seat c.look-clock.new.seat c.look-clock.result
    c.look-clock.ensures.seat c.look-clock.ensures.same c.look-clock.ensures.acts c.look-clock.ensures.asked
    c.look-clock.ensures.room.0 refl refl

pub returns-clause-stays : goal.returns-clause-stays
returns-clause-stays g c =
    noted_stands (opening_of c.args.table.now) c.look-clock.new.seat c.note.new.self c.note.ensures.same c.note.ensures.asked
    ∙ stays_standing (opening_of c.args.table.now) c.args.self.now.seat c.look-clock.new.seat c.look-clock.ensures.same.1
    c.look-clock.ensures.acts

pub returns-clause-knows : goal.returns-clause-knows
returns-clause-knows g c =
    only_knows (opening_of c.args.table.now) c.args.self.now.seat c.look-clock.new.seat c.note.new.self c.look-clock.result
    c.look-clock.ensures.seat c.look-clock.ensures.same c.look-clock.ensures.acts c.look-clock.ensures.asked
    c.look-clock.ensures.room.0 c.note.ensures.same c.note.ensures.asked
