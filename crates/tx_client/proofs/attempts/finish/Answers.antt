use Rattle.std.proofs.Common.{refl, sym}
use Rattle.shared_table.specs.Seated.{opening_of}
use Rattle.tx_client.specs.Frames.{calls_made}
use Rattle.tx_client.proofs.RequestKindLemmas.{abort_asks, finish_asks}
use Rattle.tx_client.proofs.EndLemmas.{committed, aborted, refused}
use Rattle.tx_client.proofs.attempts.finish.Goals as goal

pub returns-in-Ok-commit-clause-ends : goal.returns-in-Ok-commit-clause-ends
returns-in-Ok-commit-clause-ends g c =
    committed c.args.table.now c.args.seat.now c.commit.new.seat c.in-Ok.value c.in-Ok-commit.receipt c.args.ran.gave (sym c.in-Ok.is)
    c.in-Ok-commit.ensures.finished

pub returns-in-Ok-commit-clause-asks : goal.returns-in-Ok-commit-clause-asks
returns-in-Ok-commit-clause-asks g c =
    finish_asks c.args.declared c.args.table.now c.args.seat.now c.commit.new.seat _ c.requires.ready.between
    c.in-Ok-commit.ensures.finished

pub returns-in-Err-commit-clause-ends : goal.returns-in-Err-commit-clause-ends
returns-in-Err-commit-clause-ends g c =
    refused _ _ c.args.seat.now.seat c.commit.new.seat.seat _ c.in-Err-commit.ensures.finished.commits.keeps

pub returns-in-Err-commit-clause-asks : goal.returns-in-Err-commit-clause-asks
returns-in-Err-commit-clause-asks g c =
    finish_asks c.args.declared c.args.table.now c.args.seat.now c.commit.new.seat _ c.requires.ready.between
    c.in-Err-commit.ensures.finished

pub returns-in-Some-clause-ends : goal.returns-in-Some-clause-ends
returns-in-Some-clause-ends g c = refused _ _ c.args.seat.now.seat c.abort.new.seat.seat _ c.abort.ensures.keeps

pub returns-in-Some-clause-asks : goal.returns-in-Some-clause-asks
returns-in-Some-clause-asks g c =
    abort_asks c.args.declared (opening_of c.args.table.now) c.args.seat.now c.abort.new.seat c.requires.ready.between c.abort.ensures.none
    c.abort.ensures.asks

pub returns-in-None-clause-ends : goal.returns-in-None-clause-ends
returns-in-None-clause-ends g c =
    aborted _ _ c.args.seat.now.seat c.abort.new.seat.seat c.in-Err.error
    (calls_made (opening_of c.args.table.now) c.args.seat.now.seat) c.abort.ensures.keeps (sym c.in-Err.is, refl)

pub returns-in-None-clause-asks : goal.returns-in-None-clause-asks
returns-in-None-clause-asks g c =
    abort_asks c.args.declared (opening_of c.args.table.now) c.args.seat.now c.abort.new.seat c.requires.ready.between c.abort.ensures.none
    c.abort.ensures.asks

pub returns-in-Ok-commit-clause-reads : goal.returns-in-Ok-commit-clause-reads
returns-in-Ok-commit-clause-reads g c = c.in-Ok-commit.ensures.finished.commits.reader
