use Rattle.replay_log.specs.Worlds.{cancels}
use Rattle.seq_model.specs.declared.event.Notice.TheVariants.{Quiet}
use Rattle.seq_model.specs.declared.event.Request.TheVariants.{Abort}
use Rattle.tx_actor.specs.Running.{seat_of}
use Rattle.tx_actor.specs.declared.actor.Stage.TheVariants.{Open}
use Rattle.std.specs.Prelude.{None}
use Rattle.tx_turns.proofs.LoneRequestLemmas.{anywhere, asked, at_its_stage}
use Rattle.tx_turns.specs.Ties.{laid_in}
use Rattle.tx_turns.proofs.asks.ask_abort.Goals as goal

pub returns-clause-ties : goal.returns-clause-ties
returns-clause-ties g c =
    let t = c.args.table.now in
    let r = c.args.actor.now in
    (asked t c.args.seat.now c.ask.new.self r c.request_abort.new.self c.request_abort.result Abort
    (λ a w. (cancels w a (record (seat_of r) { cause = None }), Quiet)) c.requires.ties
    (c.ask.ensures.same.0, c.ask.ensures.same.1, c.ask.ensures.asked)
    ((c.request_abort.ensures.keeps (laid_in t)).running c.requires.ties.running) (at_its_stage r Open Abort c.requires.open)
    (anywhere (laid_in t) r c.request_abort.new.self c.request_abort.result
    (λ a w. (cancels w a (record (seat_of r) { cause = None }), Quiet)) c.request_abort.ensures.does)).0
