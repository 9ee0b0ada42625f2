use Rattle.actor_parts.proofs.PrivateCopyLemmas.{follows_answered, follows_accepted, follows_learnt, follows_moved, follows_others}
use Rattle.actor_parts.proofs.PrivateCopyLemmas.{follows_pieces}
use Rattle.actor_parts.proofs.copy_laws.copies_follow.Goals as goal

pub returns-clause-answered : goal.returns-clause-answered
returns-clause-answered g c = follows_answered

pub returns-clause-accepted : goal.returns-clause-accepted
returns-clause-accepted g c = follows_accepted

pub returns-clause-others : goal.returns-clause-others
returns-clause-others g c = follows_others

pub returns-clause-learnt : goal.returns-clause-learnt
returns-clause-learnt g c = follows_learnt

pub returns-clause-moved : goal.returns-clause-moved
returns-clause-moved g c = follows_moved

pub returns-clause-pieces : goal.returns-clause-pieces
returns-clause-pieces g c = follows_pieces
