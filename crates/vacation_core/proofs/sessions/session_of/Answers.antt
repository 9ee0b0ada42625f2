use Rattle.vacation_core.proofs.ServedSessionLemmas.{only_memory}
use Rattle.vacation_core.proofs.sessions.session_of.Goals as goal

pub unreachable-requires : goal.unreachable-requires
unreachable-requires c = only_memory c.in-Err.refusal _ c.in-Err.ensures.refused (λ isnt. isnt c.requires) c.in_default.not-Memory
