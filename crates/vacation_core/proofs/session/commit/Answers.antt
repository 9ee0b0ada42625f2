use Rattle.vacation_core.proofs.SessionLemmas.{commits}
use Rattle.vacation_core.proofs.session.commit.Goals as goal

pub returns : goal.returns
returns c = commits c.args.world.now.parts c.ask.new.world.parts c.in_ok-_told._told c.in_ok-_told.ensures
