use Rattle.client_sessions.proofs.walk.Walk.+serve.Given as goal

abbrev pub decreases-serve : goal.decreases-serve
decreases-serve l = l.most
