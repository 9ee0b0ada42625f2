use Rattle.vacation_core.proofs.CostLemmas.{asks_fit}
use Rattle.vacation_core.proofs.cost_laws.sessions_fit.Goals as goal

pub returns : goal.returns
returns c = asks_fit
