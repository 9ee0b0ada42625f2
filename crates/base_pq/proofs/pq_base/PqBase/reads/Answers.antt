use Rattle.std.proofs.Common.{◌≤◌, suc, ap, length, subst, arith}
use Rattle.std.proofs.lemmas.List.FromFn.{length-range_with_len}
use Rattle.seq_model.specs.declared.call.Op.TheVariants.{TakeLeast}
use Rattle.conflict.specs.Footprints.{priority_queue_reads}
use Rattle.base_pq.proofs.pq_base.PqBase.reads.Goals as goal

pub returns-in-TakeLeast-Found-clause-served : goal.returns-in-TakeLeast-Found-clause-served
returns-in-TakeLeast-Found-clause-served g c =
    let n = c.args.self.now.stripes in
    let stripes = ap (λ s. s.stripes) c.self.view_is in
    let len = length-range_with_len 0 (suc n) in
    λ few.
    let take = subst (λ o. length (priority_queue_reads n o c.args.outcome.now.reply) ≤ 8) c.in-TakeLeast-Found.is-0 few in
    let all = subst (λ r. length (priority_queue_reads n TakeLeast r) ≤ 8) c.in-TakeLeast-Found.is-1 take in
    c.all_below.ensures.served (omega arith)
