use Rattle.replay_log.proofs.MemoLemmas.{world_copies}
use Rattle.replay_log.proofs.laws.copies.Goals as goal

pub returns : goal.returns
returns g c =
    record {
      same = λ blocks clock values held events a l e stripes calling pl read base.
          world_copies blocks clock values held events a l e stripes calling pl read base;
    }
