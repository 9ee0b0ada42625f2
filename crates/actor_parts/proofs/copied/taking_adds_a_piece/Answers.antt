use Rattle.actor_parts.proofs.PiecesLemmas.{first_pieces, learnt_pieces}
use Rattle.actor_parts.proofs.copied.taking_adds_a_piece.Goals as goal

pub returns-clause-learnt : goal.returns-clause-learnt
returns-clause-learnt g c = learnt_pieces

pub returns-clause-first : goal.returns-clause-first
returns-clause-first g c = first_pieces
