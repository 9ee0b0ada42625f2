use Rattle.std.proofs.Common.{rules, arith, ◌∙◌, ◌≡◌, ◌++◌, ◌∷◌, [], ap, codes}
use Rattle.text_formats.proofs.ChangeLemmas.{all_changes, first_back, first_front, more_back, more_front, word_left}
use Rattle.text_formats.proofs.session_line.read_changes.Goals as goal

pub loop-rest-init : goal.loop-rest-init
loop-rest-init c =
    let is : c.push.new.self ≡ c.in-Some.first ∷ [] = c.in_ok-push.ensures.ok
    ∙ ap (λ before. before ++ c.in-Some.first ∷ []) c.new-changes.ensures in
    record {
      front = first_front _ _ c.in-Some.first _ is c.in-Some.ensures.found;
      back = first_back _ _ c.in-Some.first _ is c.in-Some.ensures.only;
    }

pub loop-rest-preserved : goal.loop-rest-preserved
loop-rest-preserved c =
    let cut = word_left c.loop-rest.rest.now _ (codes "and") c.in-and.len_at_least c.in-and.is-and in
    let pushed = c.in_ok-push-2.ensures.ok in
    let read = c.in-Some-read_change.ensures in
    record {
      front = more_front _ _ _ _ _ c.in-Some-read_change.change cut pushed _ read.found c.loop-rest.invariant.front;
      back = λ all h. more_back _ _ _ _ _ c.in-Some-read_change.change cut pushed read.only all (c.loop-rest.invariant.back all h);
    }

pub returns-then-is_empty-clause-found : goal.returns-then-is_empty-clause-found
returns-then-is_empty-clause-found c =
    all_changes _ c.loop-rest.rest.now _ (search (rules, arith, c.is_empty.ensures, c.if-is_empty.true)) c.loop-rest.invariant.front
