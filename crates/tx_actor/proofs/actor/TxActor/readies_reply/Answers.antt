use Rattle.tx_actor.proofs.PreparesLemmas.{alike_itself}
use Rattle.tx_actor.proofs.actor.TxActor.readies_reply.Goals as goal

pub returns-in_err-told-in-Some-clause-alike : goal.returns-in_err-told-in-Some-clause-alike
returns-in_err-told-in-Some-clause-alike g c = alike_itself c.args.self.now

pub returns-in-None-clause-alike : goal.returns-in-None-clause-alike
returns-in-None-clause-alike g c = alike_itself c.args.self.now
