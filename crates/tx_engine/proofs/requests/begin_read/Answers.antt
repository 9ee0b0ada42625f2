use Rattle.std.proofs.Common.{◌∙◌, ap, true, subst, sym}
use Rattle.seq_model.specs.declared.event.Request.TheVariants.{BeginRead}
use Rattle.tx_actor.specs.declared.actor.Stage as own
use Rattle.shared_table.specs.Seated.{opening_of}
use Rattle.tx_turns.specs.Bases.{gates_at}
use Rattle.tx_turns.specs.Driven.{is_declared}
use Rattle.tx_turns.proofs.RestLemmas.{IsFree, bare_out, free_own}
use Rattle.tx_engine.proofs.RequestLemmas.{asked_begin_read, asked_keeps, asks_one, begins_more, begun_as, begun_since, is_idle}
use Rattle.tx_engine.proofs.RequestLemmas.{then_keeps}
use Rattle.tx_engine.proofs.RequestLemmas.{asked_aborted}
use Rattle.tx_engine.proofs.requests.begin_read.Goals as goal

pub ask_begin_read-requires-clause-idle : goal.ask_begin_read-requires-clause-idle
ask_begin_read-requires-clause-idle g c = is_idle c.args.table.now c.args.seat.now c.args.actor.now c.requires.drives.ties c.requires.rests

pub begun-requires-clause-drives : goal.begun-requires-clause-drives
begun-requires-clause-drives g c =
    let at = c.ask_begin_read.ensures.stage in
    record {
      ties = c.ask_begin_read.ensures.ties;
      own = free_own c.args.table.now c.ask_begin_read.new.seat c.ask_begin_read.new.actor (subst IsFree (sym at) tt)
          (ap (λ (s : own.Stage _). gates_at s) at)
          (ap (λ m. m.1) c.ask_begin_read.ensures.asked.1
          ∙ bare_out c.args.table.now c.args.seat.now c.args.actor.now c.requires.drives.own);
      small = c.requires.drives.small;
    }

pub returns-clause-keeps : goal.returns-clause-keeps
returns-clause-keeps g c =
    then_keeps c.args.seat.now c.ask_begin_read.new.seat c.begun.new.seat
    (asked_keeps c.args.seat.now c.ask_begin_read.new.seat (c.ask_begin_read.ensures.asked.0, c.ask_begin_read.ensures.asked.1))
    c.begun.ensures.keeps

pub returns-clause-begun : goal.returns-clause-begun
returns-clause-begun g c =
    let o = opening_of c.args.table.now in
    let m = c.ask_begin_read.new.seat in
    let has = c.ask_begin_read.ensures.asked in
    let declared = asked_begin_read c.args.table.now c.args.seat.now m c.args.actor.now c.requires.drives.ties c.requires.rests has in
    (begun_since true o c.args.seat.now m c.begun.new.seat c.begun.result (asked_keeps c.args.seat.now m (has.0, has.1))
    (begun_as true (is_declared o m) o m c.begun.new.seat c.begun.result declared c.begun.ensures.begun) c.begun.ensures.refused).0

pub returns-clause-refused : goal.returns-clause-refused
returns-clause-refused g c =
    let o = opening_of c.args.table.now in
    let m = c.ask_begin_read.new.seat in
    let has = c.ask_begin_read.ensures.asked in
    (begun_since (is_declared o m) o c.args.seat.now m c.begun.new.seat c.begun.result (asked_keeps c.args.seat.now m (has.0, has.1))
    c.begun.ensures.begun c.begun.ensures.refused).1

pub returns-clause-begins : goal.returns-clause-begins
returns-clause-begins g c =
    c.begun.ensures.begins ∙ begins_more c.args.seat.now c.ask_begin_read.new.seat BeginRead c.ask_begin_read.ensures.asked

pub returns-clause-asks : goal.returns-clause-asks
returns-clause-asks g c = c.begun.ensures.asks ∙ asks_one c.args.seat.now c.ask_begin_read.new.seat BeginRead c.ask_begin_read.ensures.asked

pub returns-clause-same : goal.returns-clause-same
returns-clause-same g c =
    c.begun.ensures.same
    ∙ asked_aborted (opening_of c.args.table.now) c.args.seat.now c.ask_begin_read.new.seat BeginRead c.ask_begin_read.ensures.asked

pub returns-clause-reader : goal.returns-clause-reader
returns-clause-reader g c =
    c.begun.ensures.reader (asked_begin_read c.args.table.now c.args.seat.now c.ask_begin_read.new.seat c.args.actor.now
    c.requires.drives.ties c.requires.rests c.ask_begin_read.ensures.asked)
