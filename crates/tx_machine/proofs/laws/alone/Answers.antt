use Rattle.tx_machine.specs.World.{run, start}
use Rattle.tx_machine.proofs.Schedules.{reached, run_ok}
use Rattle.tx_machine.proofs.Alone.{alone}
use Rattle.tx_machine.proofs.laws.alone.Goals as goal

pub returns : goal.returns
returns c clock memory events later a e free g =
    let s = run events (start clock memory) in
    let v = reached clock memory events in
    alone s a later v (run_ok later s v) e free g
