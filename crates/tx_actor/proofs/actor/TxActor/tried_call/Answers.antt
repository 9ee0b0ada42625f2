use Rattle.std.specs.Prelude.{[]}
use Rattle.replay_log.specs.Worlds as worlds
use Rattle.tx_actor.specs.Running.{asked_of, at, seat_of, stage_of}
use Rattle.tx_actor.specs.declared.actor.Stage.TheVariants as stage
use Rattle.tx_actor.proofs.DispatchLemmas.{by_result, tried_at}
use Rattle.tx_actor.proofs.actor.TxActor.tried_call.Goals as goal

pub returns-clause-does : goal.returns-clause-does
returns-clause-does g c a w s =
    let r = at c.args.self.now (stage.Trying c.args.asked c.args.tries) in
    by_result c.after_try.new.self c.after_try.result a _ _
    (tried_at w a (seat_of c.args.self.now) (stage_of r.stage) c.args.free c.args.asked.collection []
    (λ n. worlds.Trying (asked_of c.args.asked) n) (worlds.Copying (asked_of c.args.asked)) c.args.tries) (c.after_try.ensures.does a w s.1)

pub returns-clause-keeps : goal.returns-clause-keeps
returns-clause-keeps g c v = c.after_try.ensures.keeps v

pub returns-clause-leaves : goal.returns-clause-leaves
returns-clause-leaves g c =
    c.after_try.ensures.leaves
