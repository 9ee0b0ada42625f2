use Rattle.table_tests.proofs.shown.abort.Goals as goal

pub returns-clause-shown : goal.returns-clause-shown
returns-clause-shown g c calls on =
    c.aborted_transactions_saw_one_state.ensures.abort c.args.table.now c.args.seat.now c.abort.new.seat calls
    c.abort.ensures.keeps.seat.1 on (c.abort.ensures.noted (calls, on))
