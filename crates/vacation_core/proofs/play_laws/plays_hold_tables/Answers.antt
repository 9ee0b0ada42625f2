use Rattle.vacation_core.proofs.PlayLemmas.{plays_hold_tables}
use Rattle.vacation_core.proofs.play_laws.plays_hold_tables.Goals as goal

pub returns : goal.returns
returns c = plays_hold_tables
