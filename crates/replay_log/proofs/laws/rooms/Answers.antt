use Rattle.replay_log.proofs.RoomLemmas.{room_copied, room_stale}
use Rattle.replay_log.proofs.laws.rooms.Goals as goal

pub returns-clause-copied : goal.returns-clause-copied
returns-clause-copied g c w a asked at fresh = room_copied w a asked at fresh

pub returns-clause-stale : goal.returns-clause-stale
returns-clause-stale g c w a asked at stale = room_stale w a asked at stale
