use Rattle.wolimevar.proofs.LenderLemmas.{lent_client}
use Rattle.wolimevar.proofs.lent.LentClient.of.Goals as goal

pub invariant_of-result : goal.invariant_of-result
invariant_of-result g c = lent_client _ c.args.seat c.requires.ready c.requires.share c.requires.none
