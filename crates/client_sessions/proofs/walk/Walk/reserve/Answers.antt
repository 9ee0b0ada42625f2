use Rattle.client_sessions.specs.Sessions as programs
use Rattle.client_sessions.proofs.WalkLemmas.{along}
use Rattle.client_sessions.proofs.walk.Walk.reserve.Goals as goal

pub returns : goal.returns
returns c =
    along _ _ _ _ (c.in_ok-gather.ensures.comes (programs.reserve_among c.args.customer c.args.units)) c.reserve_among.ensures
