use Rattle.vacation_core.proofs.SessionLemmas.{begins}
use Rattle.vacation_core.proofs.session.begin.Goals as goal

pub returns : goal.returns
returns c = begins c.args.world.now.parts c.ask.new.world.parts c.in_ok-_told._told c.in_ok-_told.ensures
