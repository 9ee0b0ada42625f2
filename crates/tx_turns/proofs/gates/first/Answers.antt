use Rattle.tx_turns.proofs.BasesLemmas.{front_removed}
use Rattle.tx_turns.proofs.gates.first.Goals as goal

pub returns : goal.returns
returns g c =
    front_removed c.args.bases.now.items c.remove.new.self.items c.remove.result c.requires c.remove.ensures.value c.remove.ensures.items
