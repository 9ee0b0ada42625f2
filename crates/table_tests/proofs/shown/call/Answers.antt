use Rattle.seq_model.specs.declared.call.Call.{Call}
use Rattle.table_tests.proofs.ShownLemmas.{if_called}
use Rattle.table_tests.proofs.shown.call.Goals as goal

pub returns-clause-refused : goal.returns-clause-refused
returns-clause-refused g c =
    let call : Call g.row.V.Denot = record { target = c.args.call.target; op = c.args.call.op } in
    if_called c.args.table.now c.args.seat.now c.call.new.seat _ call
    (λ cause h calls on rests. c.aborted_transactions_saw_one_state.ensures.call c.args.table.now c.args.seat.now c.call.new.seat
    call calls cause h on rests) c.call.result c.call.ensures.called

pub returns-clause-open : goal.returns-clause-open
returns-clause-open g c = c.open_transactions_see_one_state.ensures c.args.table.now c.call.new.seat
