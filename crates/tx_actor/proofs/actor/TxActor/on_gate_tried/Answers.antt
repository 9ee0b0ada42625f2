use Rattle.std.proofs.Common.{Bool, subst, sym}
use Rattle.tx_actor.specs.Running.{Does, seat_of, stage_of}
use Rattle.actor_parts.specs.Dispatch.{after_try}
use Rattle.tx_actor.proofs.actor.TxActor.on_gate_tried.Goals as goal

pub holds_gate-requires : goal.holds_gate-requires
holds_gate-requires g c = (c.in-Trying._asked, c.in-Trying._tries, c.in-Trying.is)

pub returns-in-Trying-clause-does : goal.returns-in-Trying-clause-does
returns-in-Trying-clause-does g c =
    let old = c.args.self.now in
    subst
    (λ (free : Bool). Does old c.holds_gate.new.self c.holds_gate.result
    (λ a w. after_try w a (seat_of old) (stage_of old.stage) free)) (sym c.if-free.true) c.holds_gate.ensures.does
