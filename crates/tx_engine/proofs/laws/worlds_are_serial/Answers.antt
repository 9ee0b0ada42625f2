use Rattle.std.proofs.Common.{subst}
use Rattle.replay_log.specs.Seats.{World}
use Rattle.replay_log.specs.WorldSerial.{IsSerial}
use Rattle.replay_log.specs.Worlds.{run}
use Rattle.tx_engine.proofs.laws.worlds_are_serial.Goals as goal

pub returns : goal.returns
returns g c o opens events stripes =
    subst (λ (w : World g.row.V.Denot). IsSerial opens.contents (run w events)) opens.world
    (c.serial_worlds.ensures.serial o.blocks opens.clock opens.contents.words opens.contents.held events stripes opens.suits)
