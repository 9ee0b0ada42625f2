use Rattle.vacation_core.proofs.PlayLemmas.{plays_are_serial}
use Rattle.vacation_core.proofs.play_laws.plays_are_serial.Goals as goal

pub returns : goal.returns
returns c = plays_are_serial
