use Rattle.vacation_core.proofs.ServedSessionLemmas.{allowed_at}
use Rattle.vacation_core.proofs.sessions.sessions_of.Goals as goal

pub session_of-requires : goal.session_of-requires
session_of-requires c =
    allowed_at c.args.actions.now c.loop-action.action-index c.action-item.result c.loop-action-test.true c.action-item.is c.requires
