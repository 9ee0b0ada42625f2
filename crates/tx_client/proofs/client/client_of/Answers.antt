use Rattle.tx_client.proofs.FrameLemmas.{new_client, none_later}
use Rattle.tx_client.proofs.client.client_of.Goals as goal

pub invariant_of-result : goal.invariant_of-result
invariant_of-result g c = new_client g.S.Scope.frame c.args.table.now c.args.seat c.requires.frame c.requires.ready

pub returns : goal.returns
returns g c = record { new = none_later g.S.Scope.frame c.args.table.now c.args.seat c.requires.frame }
