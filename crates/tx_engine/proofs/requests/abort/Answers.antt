use Rattle.std.proofs.Common.{◌∙◌, refl, sym}
use Rattle.seq_model.specs.declared.event.Request.TheVariants.{Abort}
use Rattle.shared_table.specs.Seated.{opening_of}
use Rattle.tx_turns.proofs.GivenUpLemmas.{under_ends}
use Rattle.tx_turns.proofs.RequestHistoryLemmas.{same_begins}
use Rattle.tx_turns.proofs.RestLemmas.{bare_out}
use Rattle.tx_turns.specs.Driven.{seat_in}
use Rattle.tx_engine.proofs.RequestLemmas.{abort_ends, abort_noted, abort_own, abort_told, asked_keeps, asked_reader, asks_one, begins_none}
use Rattle.tx_engine.proofs.CallLemmas.{stands_at}
use Rattle.tx_engine.proofs.RequestLemmas.{ends_to, is_open, then_keeps}
use Rattle.tx_engine.proofs.requests.abort.Goals as goal

pub ask_abort-requires-clause-open : goal.ask_abort-requires-clause-open
ask_abort-requires-clause-open g c =
    is_open c.args.table.now c.args.seat.now c.args.actor.now c.requires.drives.ties c.requires.open.0 c.requires.open.1

pub drive-requires-clause-own : goal.drive-requires-clause-own
drive-requires-clause-own g c =
    abort_own c.args.table.now c.args.seat.now c.ask_abort.new.seat c.args.actor.now c.ask_abort.new.actor c.requires.open.0
    c.requires.open.1 c.requires.drives.ties c.requires.drives.own c.ask_abort.ensures.asked c.ask_abort.ensures.ties

pub drive-requires-clause-under : goal.drive-requires-clause-under
drive-requires-clause-under g c =
    under_ends (seat_in (opening_of c.args.table.now) c.ask_abort.new.seat)
    (abort_ends (opening_of c.args.table.now) c.args.seat.now c.ask_abort.new.seat c.requires.open.0 c.requires.open.1
    c.ask_abort.ensures.asked)

pub returns-clause-keeps : goal.returns-clause-keeps
returns-clause-keeps g c =
    then_keeps c.args.seat.now c.ask_abort.new.seat c.drive.new.seat
    (asked_keeps c.args.seat.now c.ask_abort.new.seat (c.ask_abort.ensures.asked.0, c.ask_abort.ensures.asked.1))
    (ends_to (opening_of c.args.table.now) c.ask_abort.new.seat c.drive.new.seat c.drive.result.0 c.drive.result.1
    (abort_ends (opening_of c.args.table.now) c.args.seat.now c.ask_abort.new.seat c.requires.open.0 c.requires.open.1
    c.ask_abort.ensures.asked)
    (bare_out c.args.table.now c.drive.new.seat c.drive.new.actor c.drive.ensures.own
    ∙ sym (bare_out c.args.table.now c.ask_abort.new.seat c.ask_abort.new.actor
    (abort_own c.args.table.now c.args.seat.now c.ask_abort.new.seat c.args.actor.now c.ask_abort.new.actor c.requires.open.0
    c.requires.open.1 c.requires.drives.ties c.requires.drives.own c.ask_abort.ensures.asked c.ask_abort.ensures.ties)))
    c.drive.ensures.driven c.drive.ensures.answered).0

pub returns-clause-rests : goal.returns-clause-rests
returns-clause-rests g c =
    (ends_to (opening_of c.args.table.now) c.ask_abort.new.seat c.drive.new.seat c.drive.result.0 c.drive.result.1
    (abort_ends (opening_of c.args.table.now) c.args.seat.now c.ask_abort.new.seat c.requires.open.0 c.requires.open.1
    c.ask_abort.ensures.asked)
    (bare_out c.args.table.now c.drive.new.seat c.drive.new.actor c.drive.ensures.own
    ∙ sym (bare_out c.args.table.now c.ask_abort.new.seat c.ask_abort.new.actor
    (abort_own c.args.table.now c.args.seat.now c.ask_abort.new.seat c.args.actor.now c.ask_abort.new.actor c.requires.open.0
    c.requires.open.1 c.requires.drives.ties c.requires.drives.own c.ask_abort.ensures.asked c.ask_abort.ensures.ties)))
    c.drive.ensures.driven c.drive.ensures.answered).1

pub returns-clause-aborted : goal.returns-clause-aborted
returns-clause-aborted g c =
    abort_told (opening_of c.args.table.now) c.args.seat.now c.ask_abort.new.seat c.drive.new.seat c.requires.open.0 c.requires.open.1
    c.ask_abort.ensures.asked c.drive.result.0 c.drive.result.1 c.drive.ensures.driven c.drive.ensures.answered

pub returns-clause-noted : goal.returns-clause-noted
returns-clause-noted g c =
    abort_noted (opening_of c.args.table.now) c.args.seat.now c.ask_abort.new.seat c.drive.new.seat c.requires.open.0 c.requires.open.1
    c.ask_abort.ensures.asked c.drive.result.0 c.drive.result.1 c.drive.ensures.driven c.drive.ensures.answered

pub returns-clause-begins : goal.returns-clause-begins
returns-clause-begins g c =
    same_begins c.ask_abort.new.seat c.drive.new.seat c.drive.ensures.driven.asks
    ∙ begins_none c.args.seat.now c.ask_abort.new.seat Abort refl c.ask_abort.ensures.asked

pub returns-clause-asks : goal.returns-clause-asks
returns-clause-asks g c =
    c.drive.ensures.driven.asks ∙ asks_one c.args.seat.now c.ask_abort.new.seat Abort c.ask_abort.ensures.asked

pub returns-clause-reader : goal.returns-clause-reader
returns-clause-reader g c is =
    c.drive.ensures.driven.reader
    (asked_reader (opening_of c.args.table.now) c.args.seat.now c.ask_abort.new.seat Abort
    (stands_at (seat_in (opening_of c.args.table.now) c.args.seat.now).calls c.requires.open.0
    (seat_in (opening_of c.args.table.now) c.args.seat.now).stage c.requires.open.1) c.ask_abort.ensures.asked is)
