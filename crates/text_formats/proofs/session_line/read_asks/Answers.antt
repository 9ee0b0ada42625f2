use Rattle.std.proofs.Common.{rules, arith}
use Rattle.text_formats.proofs.AskLemmas.{all_asks, asks_back, asks_front, two_left}
use Rattle.text_formats.proofs.session_line.read_asks.Goals as goal

pub loop-rest-preserved : goal.loop-rest-preserved
loop-rest-preserved c =
    let cut = two_left c.loop-rest.rest.now _ c.in-len2-up.len_at_least in
    let pushed = c.in_ok-push.ensures.ok in
    let found = c.in-Some.ensures.found in
    record {
      front = asks_front _ _ _ _ _ _ c.in-Some.ask cut pushed _ found.0 found.1 c.loop-rest.invariant.front;
      back = λ all h. asks_back _ _ _ _ _ _ c.in-Some.ask cut pushed _ c.in-Some.is c.read_ask.ensures.only all
          (c.loop-rest.invariant.back all h);
    }

pub returns-then-is_empty-clause-found : goal.returns-then-is_empty-clause-found
returns-then-is_empty-clause-found c =
    all_asks _ c.loop-rest.rest.now _ (search (rules, arith, c.is_empty.ensures, c.if-is_empty.true)) c.loop-rest.invariant.front
