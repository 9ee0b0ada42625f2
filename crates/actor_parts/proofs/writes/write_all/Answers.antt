use Rattle.std.proofs.Common.{◌+◌, drop, get_or, ap, subst, sym, ◌∙◌}
use Rattle.tx_sets.specs.Entries.{Entries}
use Rattle.tx_machine.specs.Actor as machine
use Rattle.step_core.specs.Shown.{actor_of}
use Rattle.actor_parts.specs.Writes.{MayWrite, written_as}
use Rattle.actor_parts.proofs.WriteLemmas.{first_space, may_go_on, next_write}
use Rattle.actor_parts.proofs.writes.write_all.Goals as goal

pub write_one-requires-clause-space : goal.write_one-requires-clause-space
write_one-requires-clause-space c =
    let ws = c.args.writes.now in
    let i = c.loop-write.write-index in
    let here = subst (MayWrite c.loop-write.words) (next_write ws i c.loop-write-test.true) c.loop-write.invariant.1 in
    first_space c.loop-write.words.writes.entries (drop (i + 1) ws) (get_or ws i (0, 0)) here.4

pub loop-write-preserved : goal.loop-write-preserved
loop-write-preserved c =
    let ws = c.args.writes.now in
    let i = c.loop-write.write-index in
    let x = c.loop-write.words in
    let y = c.write_one.new.words in
    let made = c.write_one.ensures in
    let next = next_write ws i c.loop-write-test.true in
    let here = subst (MayWrite x) next c.loop-write.invariant.1 in (
      ap (λ (z : machine.Actor). written_as z (drop (i + 1) ws)) made.actor
          ∙ (sym (ap (λ (ds : Entries). written_as (actor_of x) ds) next) ∙ c.loop-write.invariant.0),
      may_go_on x y (get_or ws i (0, 0)) (drop (i + 1) ws) here made.rising made.place made.declared made.entries made.room made.len
          made.capacity,
      made.place ∙ c.loop-write.invariant.2,
    )
