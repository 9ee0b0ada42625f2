use Rattle.std.proofs.Common.{◌≤◌, ◌+◌, arith}
use Rattle.std.specs.Prelude.{length}
use Rattle.seq_model.specs.declared.limits.TheConstants.{INDEX_LIMIT}
use Rattle.vac_model.specs.Holdings.{queue}
use Rattle.client_sessions.proofs.laws.balanced_tables_have_a_state.Goals as goal

pub returns : goal.returns
returns g tables balanced k =
    let within : (queue k tables).head + length (queue k tables).tickets ≤ tables.next = balanced.queues_within k in
    let next : tables.next ≤ INDEX_LIMIT = balanced.next_within in
    omega (arith, within, next)
