use Rattle.tx_sets.proofs.EntryLemmas as entries
use Rattle.tx_sets.proofs.laws.finite_maps.Goals as goal

pub returns : goal.returns
returns c = entries.finite_maps
