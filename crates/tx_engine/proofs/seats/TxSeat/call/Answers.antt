use Rattle.std.proofs.Common.{rules, ◌≡◌}
use Rattle.tx_actor.specs.declared.actor.Stage.TheVariants as stage
use Rattle.tx_engine.proofs.ReadyLemmas.{has_called, has_open, none_called}
use Rattle.tx_engine.proofs.seats.TxSeat.call.Goals as goal

pub returns-then-not-is_open : goal.returns-then-not-is_open
returns-then-not-is_open g c =
    let none : c.args.self.now.actor.stage ≡ stage.Open → ⊥ = search rules in
    record { called = none_called c.args.table.now c.args.self.now c.args.call c.requires.ready c.requires.since none }

pub returns : goal.returns
returns g c =
    let at : c.args.self.now.actor.stage ≡ stage.Open = search rules in
    record {
      called = has_called c.args.table.now c.args.self.now _ c.args.call c.call.result c.requires.ready c.requires.since
          (has_open c.args.table.now c.args.self.now c.requires.ready at) c.call.ensures.drives c.call.ensures.calls c.call.ensures.begins
          c.call.ensures.asks;
    }
