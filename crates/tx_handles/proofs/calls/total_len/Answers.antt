use Rattle.std.proofs.Common.{rules, ◌≡◌, ◌+◌}
use Rattle.tx_handles.proofs.SumLemmas.{then_summed}
use Rattle.tx_handles.proofs.calls.total_len.Goals as goal

pub gates-preserved : goal.gates-preserved
gates-preserved g c =
    let shown = g.T.MakesCalls.shown in
    let adds : c.in-Some.more ≡ c.gates.total + c.in_ok-count.count = search rules in
    then_summed (shown c.args.tx.now) (shown c.gates.tx) (shown c.call.new.self) c.args.store c.args.gates.first c.gates.i c.gates.total
    c.in_ok-number.number
    c.in_ok-count.count c.in-Some.more c.in_ok-reply.reply c.gates.invariant c.in_ok-reply.ensures.made c.in_ok-number.ensures
    c.in_ok-count.ensures adds
