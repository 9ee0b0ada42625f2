use Rattle.std.proofs.Common.{◌∙◌, sym}
use Rattle.shared_table.specs.Seated.{opening_of}
use Rattle.tx_turns.proofs.RequestHistoryLemmas.{same_begins}
use Rattle.tx_turns.proofs.RestLemmas.{bare_out}
use Rattle.tx_turns.specs.Driven.{is_declared, seat_in}
use Rattle.tx_engine.proofs.RequestLemmas.{begin_told, begins, begins_to, begun_by, under_begins}
use Rattle.tx_engine.proofs.requests.begun.Goals as goal

pub drive_begin-told-requires-clause-under : goal.drive_begin-told-requires-clause-under
drive_begin-told-requires-clause-under g c =
    under_begins (seat_in (opening_of c.args.table.now) c.args.seat.now)
    (begins c.args.table.now c.args.seat.now c.args.actor.now c.requires.drives.ties c.requires.stage)

pub begin_told-requires : goal.begin_told-requires
begin_told-requires g c =
    let o = opening_of c.args.table.now in
    begin_told (is_declared o c.args.seat.now) o c.args.seat.now c.drive_begin-told.new.seat c.drive_begin-told.result.0
    (begins_to o c.args.seat.now c.drive_begin-told.new.seat c.drive_begin-told.result.0 c.drive_begin-told.result.1
    (begins c.args.table.now c.args.seat.now c.args.actor.now c.requires.drives.ties c.requires.stage)
    (bare_out c.args.table.now c.drive_begin-told.new.seat c.drive_begin-told.new.actor c.drive_begin-told.ensures.own
    ∙ sym (bare_out c.args.table.now c.args.seat.now c.args.actor.now c.requires.drives.own))
    c.drive_begin-told.ensures.driven c.drive_begin-told.ensures.answered).1

pub returns-clause-keeps : goal.returns-clause-keeps
returns-clause-keeps g c =
    (begins_to (opening_of c.args.table.now) c.args.seat.now c.drive_begin-told.new.seat
    c.drive_begin-told.result.0 c.drive_begin-told.result.1
    (begins c.args.table.now c.args.seat.now c.args.actor.now c.requires.drives.ties c.requires.stage)
    (bare_out c.args.table.now c.drive_begin-told.new.seat c.drive_begin-told.new.actor c.drive_begin-told.ensures.own
    ∙ sym (bare_out c.args.table.now c.args.seat.now c.args.actor.now c.requires.drives.own))
    c.drive_begin-told.ensures.driven c.drive_begin-told.ensures.answered).0

pub returns-clause-begun : goal.returns-clause-begun
returns-clause-begun g c =
    let o = opening_of c.args.table.now in
    (begun_by (is_declared o c.args.seat.now) o c.args.seat.now c.drive_begin-told.new.seat c.drive_begin-told.result.0 c.begin_told.result
    c.begin_told.ensures
    (begins_to o c.args.seat.now c.drive_begin-told.new.seat c.drive_begin-told.result.0 c.drive_begin-told.result.1
    (begins c.args.table.now c.args.seat.now c.args.actor.now c.requires.drives.ties c.requires.stage)
    (bare_out c.args.table.now c.drive_begin-told.new.seat c.drive_begin-told.new.actor c.drive_begin-told.ensures.own
    ∙ sym (bare_out c.args.table.now c.args.seat.now c.args.actor.now c.requires.drives.own))
    c.drive_begin-told.ensures.driven c.drive_begin-told.ensures.answered).1).0

pub returns-clause-refused : goal.returns-clause-refused
returns-clause-refused g c =
    let o = opening_of c.args.table.now in
    (begun_by (is_declared o c.args.seat.now) o c.args.seat.now c.drive_begin-told.new.seat c.drive_begin-told.result.0 c.begin_told.result
    c.begin_told.ensures
    (begins_to o c.args.seat.now c.drive_begin-told.new.seat c.drive_begin-told.result.0 c.drive_begin-told.result.1
    (begins c.args.table.now c.args.seat.now c.args.actor.now c.requires.drives.ties c.requires.stage)
    (bare_out c.args.table.now c.drive_begin-told.new.seat c.drive_begin-told.new.actor c.drive_begin-told.ensures.own
    ∙ sym (bare_out c.args.table.now c.args.seat.now c.args.actor.now c.requires.drives.own))
    c.drive_begin-told.ensures.driven c.drive_begin-told.ensures.answered).1).1

pub returns-clause-begins : goal.returns-clause-begins
returns-clause-begins g c = same_begins c.args.seat.now c.drive_begin-told.new.seat c.drive_begin-told.ensures.driven.asks

pub returns-clause-asks : goal.returns-clause-asks
returns-clause-asks g c = c.drive_begin-told.ensures.driven.asks

pub returns-clause-same : goal.returns-clause-same
returns-clause-same g c =
    c.drive_begin-told.ensures.driven.aborted.begin
    (begins c.args.table.now c.args.seat.now c.args.actor.now c.requires.drives.ties c.requires.stage)

pub returns-clause-reader : goal.returns-clause-reader
returns-clause-reader g c = c.drive_begin-told.ensures.driven.reader
