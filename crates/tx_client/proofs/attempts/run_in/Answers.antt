use Rattle.tx_client.proofs.FrameLemmas.{begin_frame}
use Rattle.tx_client.proofs.attempts.run_in.Goals as goal

pub invariant_of-tx : goal.invariant_of-tx
invariant_of-tx g c = begin_frame g.S.Scope.frame c.args.table.now c.args.seat c.requires.frame c.requires.ready c.requires.since
