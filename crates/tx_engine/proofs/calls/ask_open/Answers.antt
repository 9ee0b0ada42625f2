use Rattle.std.proofs.Common.{◌≡◌, true, [], ◌∷◌, ◌++◌, None, subst}
use Rattle.seq_model.specs.declared.event.Request.TheVariants.{Abort}
use Rattle.shared_table.specs.Seated.{opening_of}
use Rattle.tx_turns.specs.Driven.{is_declared}
use Rattle.tx_turns.specs.RequestHistory.{requests_of}
use Rattle.tx_engine.specs.Requests.{HasAborted, IsLastAborted}
use Rattle.tx_engine.proofs.calls.ask_open.Goals as goal

pub returns-clause-aborted : goal.returns-clause-aborted
returns-clause-aborted g c =
    subst (λ s. HasAborted (opening_of c.args.table.now) s c.abort.new.seat) c.in-Err.ensures.seat c.abort.ensures.aborted

pub returns-clause-noted : goal.returns-clause-noted
returns-clause-noted g c =
    subst (λ s. IsLastAborted (opening_of c.args.table.now) s c.abort.new.seat None) c.in-Err.ensures.seat c.abort.ensures.noted

pub returns-clause-reader : goal.returns-clause-reader
returns-clause-reader g c =
    let o = opening_of c.args.table.now in
    subst (λ s. is_declared o s ≡ true → is_declared o c.abort.new.seat ≡ true) c.in-Err.ensures.seat c.abort.ensures.reader

pub returns-clause-asks : goal.returns-clause-asks
returns-clause-asks g c =
    subst (λ s. requests_of c.abort.new.seat ≡ requests_of s ++ Abort ∷ []) c.in-Err.ensures.seat c.abort.ensures.asks
