use Rattle.vacation_core.proofs.UnmetLemmas.{plays_find_room}
use Rattle.vacation_core.proofs.play_laws.plays_find_room.Goals as goal

pub returns : goal.returns
returns c = plays_find_room
