use Rattle.std.proofs.Common.{refl}
use Rattle.replay_log.specs.Worlds.{run, opened}
use Rattle.replay_log.proofs.SerialLemmas.{serial_world}
use Rattle.replay_log.proofs.NumberLemmas.{unused_later}
use Rattle.replay_log.proofs.RecordLemmas.{half_done, all_own}
use Rattle.replay_log.proofs.laws.numbers.Goals as goal

pub returns-clause-half_done : goal.returns-clause-half_done
returns-clause-half_done g c blocks clock values held events stripes suit =
    half_done (run (opened blocks clock values held) events) (serial_world blocks stripes clock values held suit events).ordered
    (all_own blocks clock values held events)

pub returns-clause-unused : goal.returns-clause-unused
returns-clause-unused g c blocks clock values held events later a stripes ends written =
    unused_later blocks stripes clock values held later events (run (opened blocks clock values held) events) a refl ends written
