use Rattle.wolimevar.proofs.SessionLemmas.{alone_own, alone_served}
use Rattle.wolimevar.proofs.sessions.serve_one.Goals as goal

pub returns-clause-served : goal.returns-clause-served
returns-clause-served g c =
    alone_served g.N.Session.serves c.args.session c.serve_at.result.1 c.args.seat.seat c.serve_at.result.0.seat c.serve_at.ensures.served
    c.requires.none

pub returns-clause-own : goal.returns-clause-own
returns-clause-own g c =
    alone_own g.N.Session.serves c.args.session c.serve_at.result.1 c.args.seat.seat c.serve_at.result.0.seat c.serve_at.ensures.served
    c.requires.none
