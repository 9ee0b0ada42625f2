use Rattle.vacation_core.proofs.PlayOpeningLemmas.{opens}
use Rattle.vacation_core.proofs.world.VacWorld.open.Goals as goal

pub returns : goal.returns
returns c =
    opens c.args.stripes c.args.tables.now _ c.requires.stripes c.requires.balanced c.in_ok-world.ensures c.in_ok-clients.ensures.count
    c.in_ok-clients.ensures.new c.new.ensures
