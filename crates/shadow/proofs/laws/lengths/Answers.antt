use Rattle.std.proofs.Common.{refl}
use Rattle.std.proofs.lemmas.Option.{none-some}
use Rattle.shadow.proofs.LengthLemmas.{counted_accepted, counted_added, len_answered}
use Rattle.shadow.proofs.laws.lengths.Goals as goal

pub returns-clause-map : goal.returns-clause-map
returns-clause-map g c = λ m. (refl, λ t e. absurd (none-some t e))

pub returns-clause-added : goal.returns-clause-added
returns-clause-added g c = counted_added

pub returns-clause-answered : goal.returns-clause-answered
returns-clause-answered g c = len_answered

pub returns-clause-accepted : goal.returns-clause-accepted
returns-clause-accepted g c = counted_accepted
