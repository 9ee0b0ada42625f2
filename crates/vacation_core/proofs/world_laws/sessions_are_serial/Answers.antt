use Rattle.vacation_core.proofs.ServeLemmas.{sessions_are_serial}
use Rattle.vacation_core.proofs.world_laws.sessions_are_serial.Goals as goal

pub returns : goal.returns
returns c = sessions_are_serial
