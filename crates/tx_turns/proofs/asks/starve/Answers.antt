use Rattle.tx_turns.proofs.LoneRequestLemmas.{starved}
use Rattle.tx_turns.specs.Ties.{laid_in}
use Rattle.tx_turns.proofs.asks.starve.Goals as goal

pub returns-clause-starved : goal.returns-clause-starved
returns-clause-starved g c =
    (starved c.args.table.now c.args.seat.now c.ask.new.self c.args.actor.now c.on_starve.new.self c.on_starve.result c.requires.ties
    (c.ask.ensures.same.0, c.ask.ensures.same.1, c.ask.ensures.asked)
    ((c.on_starve.ensures.keeps (laid_in c.args.table.now)).running c.requires.ties.running) c.on_starve.ensures.does).1

pub returns-clause-ties : goal.returns-clause-ties
returns-clause-ties g c =
    (starved c.args.table.now c.args.seat.now c.ask.new.self c.args.actor.now c.on_starve.new.self c.on_starve.result c.requires.ties
    (c.ask.ensures.same.0, c.ask.ensures.same.1, c.ask.ensures.asked)
    ((c.on_starve.ensures.keeps (laid_in c.args.table.now)).running c.requires.ties.running) c.on_starve.ensures.does).0
