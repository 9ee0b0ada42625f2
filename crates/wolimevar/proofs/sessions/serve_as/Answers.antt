use Rattle.tx_client.proofs.FrameLemmas.{in_hand}
use Rattle.wolimevar.proofs.SessionLemmas.{served_at}
use Rattle.wolimevar.proofs.sessions.serve_as.Goals as goal

pub returns-clause-goes : goal.returns-clause-goes
returns-clause-goes g c =
    (in_hand g.S.Scope.frame c.args.table.now c.args.seat c.seat_of.result c.requires.frame c.seat_of.ensures.back).1

pub returns-clause-served : goal.returns-clause-served
returns-clause-served g c =
    served_at g.N.Session.serves g.S.Scope.frame c.args.table.now c.args.seat c.seat_of.result c.args.session c.serve-out.result _
    c.requires.frame c.seat_of.ensures.grown c.seat_of.ensures.receipts c.serve-out.ensures.served
