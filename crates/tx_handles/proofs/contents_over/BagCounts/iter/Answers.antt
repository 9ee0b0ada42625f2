use Rattle.tx_handles.proofs.ReadLemmas.{bag_read}
use Rattle.tx_handles.proofs.contents_over.BagCounts.iter.Goals as goal

pub returns : goal.returns
returns g c = λ whole lie. bag_read c.args.self.now.gates c.args.self.now.held.now whole lie
