use Rattle.std.proofs.Common.{refl}
use Rattle.tx_client.proofs.EndLemmas.{ok_then}
use Rattle.tx_client.proofs.client.Client.look.Goals as goal

pub returns-clause-reads : goal.returns-clause-reads
returns-clause-reads g c = ok_then c.retry_as.result (λ _ wrote. wrote refl) c.retry_as.ensures.ran.reads
