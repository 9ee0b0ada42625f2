use Rattle.std.proofs.Common.{None}
use Rattle.tx_engine.proofs.AbortedLemmas.{shown_aborted, shown_refused}
use Rattle.tx_engine.proofs.laws.aborted_transactions_saw_one_state.Goals as goal

pub returns-clause-call : goal.returns-clause-call
returns-clause-call g c t s u call calls cause called on rests =
    let C = called.calls (calls, on) in
    shown_refused t (c.tables_show_their_seats.ensures t.whole.shared.key) s.seat u.seat calls cause C.keeps.seat.1 on (C.aborted rests)

pub returns-clause-commit : goal.returns-clause-commit
returns-clause-commit g c t s u calls cause finished on =
    let C = finished.commits in
    shown_refused t (c.tables_show_their_seats.ensures t.whole.shared.key) s.seat u.seat calls cause C.keeps.seat.1 on
    (C.aborted (calls, on))

pub returns-clause-abort : goal.returns-clause-abort
returns-clause-abort g c t s u calls same on last =
    shown_aborted t (c.tables_show_their_seats.ensures t.whole.shared.key) s.seat u.seat calls None same on last
