use Rattle.vacation_core.specs.PlayOpenings.{unplayed_on}
use Rattle.vacation_core.specs.Plays.{played_all}
use Rattle.vacation_core.proofs.world.VacWorld.run.Goals as goal

pub into_trace-requires : goal.into_trace-requires
into_trace-requires c = record {
  play = played_all (unplayed_on c.args.stripes c.args.tables) c.args.events.now;
  is = c.in_ok-play_all.ensures _ c.in_ok-world.ensures;
}

pub returns-clause-trace : goal.returns-clause-trace
returns-clause-trace c = c.in_ok-trace.ensures _ (c.in_ok-play_all.ensures _ c.in_ok-world.ensures)
