use Rattle.replay_log.proofs.AloneLemmas.{world_alone, world_unstarved}
use Rattle.replay_log.proofs.laws.alone.Goals as goal

pub returns-clause-never : goal.returns-clause-never
returns-clause-never g c blocks clock values held events later a stripes at free only e m =
    world_alone blocks clock values held events later a stripes at free only e m

pub returns-clause-memory : goal.returns-clause-memory
returns-clause-memory g c blocks clock values held events later a stripes at free only fed e m fed2 =
    world_unstarved blocks clock values held events later a stripes at free only fed e m fed2
