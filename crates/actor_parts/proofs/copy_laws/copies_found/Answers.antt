use Rattle.actor_parts.proofs.CopyByPartsLemmas.{alike_by_parts, mixed_parts, touched_alike}
use Rattle.actor_parts.proofs.copy_laws.copies_found.Goals as goal

pub returns-clause-alike : goal.returns-clause-alike
returns-clause-alike g c = alike_by_parts

pub returns-clause-mixed : goal.returns-clause-mixed
returns-clause-mixed g c = mixed_parts

pub returns-clause-touched : goal.returns-clause-touched
returns-clause-touched g c n op s t pos kind same = touched_alike n pos op s t kind same
