use Rattle.replay_log.specs.Worlds.{run, opened}
use Rattle.replay_log.proofs.SerialLemmas.{serial_world, saw_later, begins_above, committed_saw}
use Rattle.replay_log.proofs.laws.serial_worlds.Goals as goal

pub returns-clause-serial : goal.returns-clause-serial
returns-clause-serial g c blocks clock values held events stripes suit = serial_world blocks stripes clock values held suit events

pub returns-clause-stays : goal.returns-clause-stays
returns-clause-stays g c blocks clock values held events later a stripes suit =
    saw_later blocks stripes clock values held suit events later a

pub returns-clause-begins : goal.returns-clause-begins
returns-clause-begins g c blocks clock values held events a rv stripes suit st e =
    begins_above blocks stripes clock values held suit events a rv st e

pub returns-clause-committed : goal.returns-clause-committed
returns-clause-committed g c blocks clock values held events later a stripes suit h =
    let w = run (opened blocks clock values held) events in
    let x = w.seats a in
    committed_saw (record { words = values; held = held }) (run w later).records x x.stage h
    (saw_later blocks stripes clock values held suit events later a)
