use Rattle.text_formats.proofs.EntryLemmas.{all_numbers, numbers_front, numbers_back}
use Rattle.text_formats.proofs.script_line.read_numbers.Goals as goal

pub loop-token-preserved : goal.loop-token-preserved
loop-token-preserved c = record {
  front = numbers_front _ _ _ _ _ _ _ c.loop-token-test.true c.in-Some.is c.in_ok-push.ensures.ok c.number.ensures.found
      c.loop-token.invariant.front;
  back = λ ns h. numbers_back _ _ _ _ _ _ _ c.loop-token-test.true c.in-Some.is c.in_ok-push.ensures.ok c.number.ensures.only ns
      (c.loop-token.invariant.back ns h);
}

pub returns-clause-found : goal.returns-clause-found
returns-clause-found c = all_numbers _ _ _ c.loop-token-test.false c.loop-token.invariant.front
