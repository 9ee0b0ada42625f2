use Rattle.workers.proofs.RunLemmas.{closes_with}
use Rattle.workers.proofs.served.close.Goals as goal

pub returns : goal.returns
returns c =
    closes_with c.args.table c.args.seat c.in_ok-state.state c.in_ok-closed.closed c.in_ok-closed.ensures.left
    c.in_ok-closed.ensures.shows c.in_ok-state.ensures.words c.in_ok-state.ensures.held
