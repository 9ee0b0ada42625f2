use Rattle.std.proofs.Common.{rules, ◌≡◌}
use Rattle.std.proofs.lemmas.Result.{err_from_is_err_and}
use Rattle.tx_actor.specs.declared.actor.Stage.TheVariants as stage
use Rattle.tx_engine.proofs.ReadyLemmas.{has_finished, has_open, none_finished, receipt_numbers, refused_finished}
use Rattle.tx_engine.proofs.seats.TxSeat.commit.Goals as goal

pub returns-then-not-is_open : goal.returns-then-not-is_open
returns-then-not-is_open g c =
    let none : c.args.self.now.actor.stage ≡ stage.Open → ⊥ = search rules in
    record { finished = none_finished c.args.table.now c.args.self.now c.requires.ready none }

pub returns-in_err-receipt : goal.returns-in_err-receipt
returns-in_err-receipt g c =
    let p = err_from_is_err_and c.from_residual.result c.from_residual.ensures.1 in
    let at : c.args.self.now.actor.stage ≡ stage.Open = search rules in
    record {
      finished = rw (p.1, p.2) (refused_finished c.args.table.now c.args.self.now _ _ c.requires.ready
          (has_open c.args.table.now c.args.self.now c.requires.ready at) c.commit.ensures.drives c.in_err-receipt.ensures.commits
          c.commit.ensures.begins c.in_err-receipt.ensures.asks);
    }

pub note-requires : goal.note-requires
note-requires g c =
    (receipt_numbers c.args.table.now c.args.self.now c.commit.new.seat c.in_ok-receipt.receipt c.requires.since
    c.in_ok-receipt.ensures.commits).2

pub returns : goal.returns
returns g c = record {
  finished = has_finished c.args.table.now c.args.self.now c.commit.new.seat c.in_ok-receipt.receipt c.requires.since
      c.in_ok-receipt.ensures.commits _ c.requires.ready c.commit.ensures.drives c.commit.ensures.last c.commit.ensures.begins
      c.in_ok-receipt.ensures.asks c.note.ensures.same c.note.ensures.asked c.note.ensures.last;
}
