use Rattle.table_tests.proofs.ShownLemmas.{if_finished}
use Rattle.table_tests.proofs.shown.commit.Goals as goal

pub returns-clause-refused : goal.returns-clause-refused
returns-clause-refused g c =
    if_finished c.args.table.now c.args.seat.now c.commit.new.seat _
    (λ cause h calls on. c.aborted_transactions_saw_one_state.ensures.commit c.args.table.now c.args.seat.now c.commit.new.seat
    calls cause h on) c.commit.result c.commit.ensures.finished
