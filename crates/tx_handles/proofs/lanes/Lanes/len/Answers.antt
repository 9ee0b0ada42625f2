use Rattle.tx_handles.specs.HandleCalls.{HasSummed}
use Rattle.tx_handles.specs.Lanes.{HasDoneWithLanes, IsCounted}
use Rattle.tx_handles.proofs.GateLemmas.{on_ok}
use Rattle.tx_handles.proofs.LaneLemmas.{lanes_len}
use Rattle.tx_handles.proofs.lanes.Lanes.len.Goals as goal

pub returns : goal.returns
returns g c =
    let shown = g.T.MakesCalls.shown in
    on_ok (λ total. HasSummed (shown c.args.tx.now) c.args.self.now.store c.args.self.now.gates total (shown c.total_len.new.tx))
    (λ total. HasDoneWithLanes (shown c.args.tx.now) c.args.self.now (λ lanes t. IsCounted c.args.self.now.gates lanes total t)
    (shown c.total_len.new.tx))
    c.total_len.result (lanes_len (shown c.args.tx.now) (shown c.total_len.new.tx) c.args.self.now) c.total_len.ensures
