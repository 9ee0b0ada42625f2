use Rattle.replay_log.proofs.TouchLemmas.{summed_touch}
use Rattle.replay_log.proofs.laws.touches.Goals as goal

pub returns : goal.returns
returns g c = record { summed = λ n op s pos. summed_touch n op s pos }
