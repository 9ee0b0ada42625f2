use Rattle.tx_handles.specs.HandleCalls.{HasSummed, MapCounts}
use Rattle.tx_handles.proofs.GateLemmas.{on_ok}
use Rattle.tx_handles.proofs.SumLemmas.{map_len}
use Rattle.tx_handles.proofs.maps.Map.len.Goals as goal

pub returns : goal.returns
returns g c =
    let shown = g.T.MakesCalls.shown in
    on_ok (λ total. HasSummed (shown c.args.tx.now) c.args.self.now.store c.args.self.now.gates total (shown c.total_len.new.tx))
    (λ total. MapCounts (shown c.args.tx.now) c.args.self.now total (shown c.total_len.new.tx)) c.total_len.result
    (map_len (shown c.args.tx.now) (shown c.total_len.new.tx) c.args.self.now) c.total_len.ensures
