use Rattle.actor_laws.proofs.StepResult.{word_turned}
use Rattle.actor_laws.proofs.step_laws.word_becomes.Goals as goal

pub returns : goal.returns
returns g c = record { word = λ v a d e. (word_turned a v d e).0; clock = λ v a d e. (word_turned a v d e).1 }
