use Rattle.std.proofs.Common.{◌+◌, arith, ap, length, subst, sym}
use Rattle.command_line.proofs.LineLemmas.{IsAt, at_end, at_next}
use Rattle.command_line.proofs.lines.lines_of_worker.Goals as goal

pub sessions-preserved : goal.sessions-preserved
sessions-preserved c = record {
  count = omega (arith, ap (λ xs. length xs) c.in-Some.ensures.cases.0, c.sessions.invariant.count);
  told = λ os later are. subst
      (λ lines. IsAt c.args.worker (c.sessions.place + 1) c.args.sessions.now os later c.in-Some.later.now c.in_ok-line.behind.now
      c.in_ok-line.others.now lines)
      (sym c.in_ok-push_back.ensures.items)
      (at_next _ _ _ os later c.in-Some.session.now _ _ _ _ _ _ _ c.in_ok-line.line c.in-Some.ensures.cases.0
      (c.sessions.invariant.told os later are) c.in_ok-line.ensures);
}

pub returns : goal.returns
returns c = λ os later are.
    at_end _ _ _ os later _ _ _ _ c.in_default.ensures.cases (c.sessions.invariant.told os later are)
