use Rattle.std.proofs.Common.{ap, ◌∙◌}
use Rattle.replay_log.specs.WorldTraces.{half_in}
use Rattle.step_world.specs.Traces.{seat_at}
use Rattle.step_world.proofs.TraceLemmas.{serial_trace, traced}
use Rattle.step_world.proofs.parts.Parts.trace.Goals as goal

pub returns-clause-trace : goal.returns-clause-trace
returns-clause-trace g c =
    traced c.args.self.now (record {
      records = c.from_vec.result;
      aborted = c.from_vec-2.result;
      state = c.in_ok-state.state;
      half = c.from_vec-3.result;
    })
    (c.from_vec.ensures ∙ (c.in_ok-records.ensures ∙ c.deref-3.ensures.value))
    (c.from_vec-2.ensures ∙ (c.in_ok-aborted.ensures ∙ c.deref-4.ensures.value))
    (c.from_vec-3.ensures ∙ (c.in_ok-half.ensures ∙ (ap (λ rs. half_in (seat_at rs) c.deref-2.result.now) c.deref.ensures.value
    ∙ ap (half_in (seat_at c.args.self.now.actors.items)) c.deref-2.ensures.value)))
    c.in_ok-state.ensures

pub returns-clause-serial : goal.returns-clause-serial
returns-clause-serial g c = λ o w reached h.
    serial_trace c.serial_worlds.ensures.serial c.traces.ensures.state c.numbers.ensures.half_done o w _ reached
    (returns-clause-trace g c o w reached h)
