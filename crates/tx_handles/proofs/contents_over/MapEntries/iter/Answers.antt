use Rattle.tx_handles.proofs.ReadLemmas.{map_read}
use Rattle.tx_handles.proofs.contents_over.MapEntries.iter.Goals as goal

pub returns : goal.returns
returns g c = λ whole lie. map_read c.args.self.now.gates c.args.self.now.held.now whole lie
