use Rattle.seq_model.specs.Counts.{copies}
use Rattle.shadow.proofs.MemoLemmas.{nothing_known, new_map, is_shown, is_shown_summed, added, answered, accepted, accepted_holds}
use Rattle.shadow.proofs.laws.memos.Goals as goal

pub returns-clause-map : goal.returns-clause-map
returns-clause-map g c = new_map

pub returns-clause-bag : goal.returns-clause-bag
returns-clause-bag g c = λ m. nothing_known copies m

pub returns-clause-touched : goal.returns-clause-touched
returns-clause-touched g c = is_shown

pub returns-clause-summed : goal.returns-clause-summed
returns-clause-summed g c = is_shown_summed

pub returns-clause-added : goal.returns-clause-added
returns-clause-added g c = added

pub returns-clause-answered : goal.returns-clause-answered
returns-clause-answered g c = answered

pub returns-clause-accepted : goal.returns-clause-accepted
returns-clause-accepted g c = accepted

pub returns-clause-held : goal.returns-clause-held
returns-clause-held g c = accepted_holds
