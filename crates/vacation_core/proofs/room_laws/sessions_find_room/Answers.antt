use Rattle.vacation_core.proofs.RoomLemmas.{sessions_find_room}
use Rattle.vacation_core.proofs.room_laws.sessions_find_room.Goals as goal

pub returns : goal.returns
returns c = sessions_find_room
