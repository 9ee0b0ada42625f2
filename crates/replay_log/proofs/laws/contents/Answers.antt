use Rattle.replay_log.proofs.ContentLemmas.{content_frame}
use Rattle.replay_log.proofs.laws.contents.Goals as goal

pub returns : goal.returns
returns g c = record { frame = λ words blocks stripes. content_frame words blocks stripes }
