use Rattle.actor_laws.proofs.Bases.{goes_home, more_changes, more_locations}
use Rattle.actor_laws.proofs.step_laws.goes_home_as_folded.Goals as goal

pub returns : goal.returns
returns g c = record { home = goes_home; changes = more_changes; locations = more_locations }
