use Rattle.replay_log.proofs.ProgressLemmas.{world_nears, others_leave}
use Rattle.replay_log.proofs.SizeLemmas.{world_small, world_soon}
use Rattle.replay_log.proofs.DueLemmas.{step_due}
use Rattle.replay_log.proofs.EventLemmas.{run_linked, opened_linked}
use Rattle.replay_log.proofs.StarveLemmas.{starve_no_further}
use Rattle.replay_log.proofs.AnswerBoundLemmas.{answer_rests, always_few, answered}
use Rattle.replay_log.specs.Worlds.{run, opened}
use Rattle.replay_log.proofs.laws.progress.Goals as goal

pub returns-clause-nearer : goal.returns-clause-nearer
returns-clause-nearer g c blocks clock values held events a stripes small = world_nears blocks clock values held events stripes small a

pub returns-clause-others : goal.returns-clause-others
returns-clause-others g c w e a ne = others_leave w e a ne

pub returns-clause-sets : goal.returns-clause-sets
returns-clause-sets g c blocks clock values held events a stripes = world_small blocks clock values held events a stripes

pub returns-clause-few : goal.returns-clause-few
returns-clause-few g c blocks clock values held events a q stripes small = world_soon blocks clock values held events a q stripes small

pub returns-clause-due : goal.returns-clause-due
returns-clause-due g c w e quiet = step_due w e quiet

pub returns-clause-rests : goal.returns-clause-rests
returns-clause-rests g c w e a h = answer_rests w e a h

pub returns-clause-starved : goal.returns-clause-starved
returns-clause-starved g c blocks clock values held events a stripes quiet =
    starve_no_further (run (opened blocks clock values held) events) a
    (run_linked events (opened blocks clock values held) (opened_linked blocks clock values held stripes)) quiet

pub returns-clause-always : goal.returns-clause-always
returns-clause-always g c blocks clock values held events a stripes small = always_few blocks clock values held stripes small events a

pub returns-clause-answered : goal.returns-clause-answered
returns-clause-answered g c blocks clock values held events later a stripes small busy enough =
    answered blocks clock values held stripes small a events later busy enough
