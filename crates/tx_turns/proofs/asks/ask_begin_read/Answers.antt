use Rattle.replay_log.specs.Worlds.{ask_idle}
use Rattle.seq_model.specs.declared.event.Request.TheVariants.{BeginRead}
use Rattle.tx_actor.specs.Running.{seat_of}
use Rattle.tx_actor.specs.declared.actor.Stage.TheVariants.{Idle}
use Rattle.tx_turns.proofs.LoneRequestLemmas.{anywhere, asked, at_its_stage}
use Rattle.tx_turns.specs.Ties.{laid_in}
use Rattle.tx_turns.proofs.asks.ask_begin_read.Goals as goal

pub returns-clause-ties : goal.returns-clause-ties
returns-clause-ties g c =
    let t = c.args.table.now in
    let r = c.args.actor.now in
    (asked t c.args.seat.now c.ask.new.self r c.start_reader.new.self c.start_reader.result BeginRead
    (λ a w. ask_idle w a (seat_of r) BeginRead) c.requires.ties
    (c.ask.ensures.same.0, c.ask.ensures.same.1, c.ask.ensures.asked)
    ((c.start_reader.ensures.keeps (laid_in t)).running c.requires.ties.running)
    (at_its_stage r Idle BeginRead c.requires.idle)
    (anywhere (laid_in t) r c.start_reader.new.self c.start_reader.result (λ a w. ask_idle w a (seat_of r) BeginRead)
    (λ a w runs. c.start_reader.ensures.does a w runs.1))).0
