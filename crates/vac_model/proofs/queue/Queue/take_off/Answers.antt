use Rattle.std.proofs.Common.{◌∙◌, ap}
use Rattle.seq_model.specs.Queues.{rest_of}
use Rattle.vac_model.proofs.OverlayLemmas.{rest_drop}
use Rattle.vac_model.proofs.queue.Queue.take_off.Goals as goal

pub loop-preserved : goal.loop-preserved
loop-preserved c =
    let l = c.loop.invariant in
    let tickets = c.take_first.ensures.rest ∙ ap rest_of l.tickets ∙ rest_drop c.loop.counter c.args.self.now.tickets in
    record { head = l.head; tickets = tickets }
