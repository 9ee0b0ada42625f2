use Rattle.std.proofs.Common.{ap, ◌∙◌}
use Rattle.replay_log.specs.WorldTraces.{half_in}
use Rattle.step_world.specs.Traces.{seat_at}
use Rattle.step_world.proofs.TraceLemmas.{half_next, take_all}
use Rattle.step_world.proofs.trace.half_done.Goals as goal

pub loop-entry-preserved : goal.loop-entry-preserved
loop-entry-preserved g c = half_next (seat_at c.args.actors.now) c.args.records.now c.loop-entry.entry-index c.entry-item.result
    c.is_half-half.result c.loop-entry.found.items c.add_number.new.found.items c.loop-entry-test.true c.entry-item.is
    c.is_half-half.ensures c.loop-entry.invariant c.in_ok-add_number.ensures

pub returns : goal.returns
returns g c =
    c.loop-entry.invariant ∙ ap (half_in (seat_at c.args.actors.now))
    (take_all c.args.records.now c.loop-entry.entry-index c.loop-entry-test.false)
