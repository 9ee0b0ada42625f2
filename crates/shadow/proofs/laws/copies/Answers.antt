use Rattle.shadow.proofs.CopyLemmas.{new_copy_map, new_copy_bag, moved_copy, touched_copy, summed_copy}
use Rattle.shadow.proofs.CopyLemmas.{copy_answered, copy_accepted, copy_holds}
use Rattle.shadow.proofs.laws.copies.Goals as goal

pub returns-clause-map : goal.returns-clause-map
returns-clause-map g c = new_copy_map

pub returns-clause-bag : goal.returns-clause-bag
returns-clause-bag g c = new_copy_bag

pub returns-clause-moved : goal.returns-clause-moved
returns-clause-moved g c = moved_copy

pub returns-clause-touched : goal.returns-clause-touched
returns-clause-touched g c n op t b s es cs total grown shrunk changes = touched_copy grown shrunk changes n op t b s es cs total

pub returns-clause-summed : goal.returns-clause-summed
returns-clause-summed g c n op t b s es cs total grown shrunk changes = summed_copy grown shrunk changes n op t b s es cs total

pub returns-clause-answered : goal.returns-clause-answered
returns-clause-answered g c = copy_answered

pub returns-clause-accepted : goal.returns-clause-accepted
returns-clause-accepted g c = copy_accepted

pub returns-clause-held : goal.returns-clause-held
returns-clause-held g c = copy_holds
