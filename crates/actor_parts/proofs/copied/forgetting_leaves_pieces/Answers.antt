use Rattle.actor_parts.proofs.ForgottenLemmas.{forgets_pieces}
use Rattle.actor_parts.proofs.copied.forgetting_leaves_pieces.Goals as goal

pub returns : goal.returns
returns g c = forgets_pieces
