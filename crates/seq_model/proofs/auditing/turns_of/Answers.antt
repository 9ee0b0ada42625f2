use Rattle.std.proofs.Common.{◌≡◌, take, ap, sym, ◌∙◌, arith}
use Rattle.std.proofs.lemmas.List.{take_all}
use Rattle.seq_model.specs.Ranks.{ranks_from, sort_ranks}
use Rattle.seq_model.proofs.RankLemmas.{sorted_turns}
use Rattle.seq_model.proofs.AuditLemmas.{turns_run_order}
use Rattle.seq_model.proofs.ReplayLemmas.{turns_step}
use Rattle.seq_model.proofs.auditing.turns_of.Goals as goal

pub loop-place-preserved : goal.loop-place-preserved
loop-place-preserved g c =
    turns_step c.args.records.now c.loop-place.place c.loop-place.turns.items c.push.new.self.items c.index-records-place.result
    (omega arith) c.index-records-place.is c.loop-place.invariant c.in_ok-push.ensures.items

pub returns : goal.returns
returns g c =
    let all : take c.loop-place.place c.args.records.now ≡ c.args.records.now = take_all c.loop-place.place c.args.records.now
    (omega arith) in
    record {
      turns = sorted_turns c.loop-place.turns.items c.sort.new.self.items c.in_ok-sort.ensures.sorted c.sort.ensures.stable
          ∙ ap sort_ranks (c.loop-place.invariant ∙ ap (λ l. ranks_from 0 l) all) ∙ sym (turns_run_order 0 c.args.records.now);
    }
