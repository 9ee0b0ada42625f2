use Rattle.std.proofs.Common.{arith, ap, length, subst, sym, ◌≡◌, ◌∙◌, ◌+◌, ◌∷◌, [], List}
use Rattle.std.proofs.lemmas.List.{length-append, length-map, map-append}
use Rattle.seq_model.specs.declared.record.Record.{Record}
use Rattle.vac_model.specs.declared.action.Action.{Action}
use Rattle.client_sessions.specs.declared.entry.Entry.{Entry}
use Rattle.workers.specs.Deals.{AreDealt, AreDealtLike, in_lists, in_queues}
use Rattle.command_line.specs.Lines.{AreLinesOf}
use Rattle.command_line.specs.Unread.{AreUnread, HasUnread}
use Rattle.command_line.proofs.LineLemmas.{IsAllAt, all_at_end, all_at_next, both_ok, has_unread, queues_like}
use Rattle.command_line.proofs.lines.lines_of_report.Goals as goal

pub lines_of_worker-requires : goal.lines_of_worker-requires
lines_of_worker-requires c =
    let at = c.workers.invariant.told c.requires.there.outcomes c.requires.there.are in
    let has = has_unread _ _ _ c.in-Some.own.now.items _ (in_lists c.in-Some.later.now) _ _ c.in-Some-split_first.receipts.now _ _
    (ap in_lists c.in-Some.ensures.cases.0) c.in-Some-split_first.ensures.cases.0 at in
    subst (λ (xs : List Action). HasUnread c.workers.worker 0 xs c.as_slice-in-Some.result.now c.workers.missed.now)
    (sym c.as_slice.ensures.value)
    (subst (λ (rs : List (Record Entry)). HasUnread c.workers.worker 0 c.in-Some.own.now.items rs c.workers.missed.now)
    (sym c.as_slice-in-Some.ensures) has)

pub workers-preserved : goal.workers-preserved
workers-preserved c =
    let own : c.as_slice.result.now ≡ c.in-Some.own.now.items = c.as_slice.ensures.value in
    record {
      count = omega (arith, ap (λ xs. length xs) c.in-Some.ensures.cases.0, c.workers.invariant.count);
      many = omega (
        arith,
        ap (λ qs. length qs) c.in_ok-push.ensures.items,
        length-append c.workers.queues.items (c.in_ok-lines.lines ∷ []),
        c.workers.invariant.many,
      );
      told = λ outcomes are. subst
          (λ qs. IsAllAt (c.workers.worker + 1) (in_lists c.args.sessions.now) outcomes (in_lists c.in-Some.later.now)
          c.in-Some-split_first.behind.now c.in_ok-lines.others.now qs)
          (sym (ap in_queues c.in_ok-push.ensures.items
          ∙ map-append (λ queue. queue.items) c.workers.queues.items (c.in_ok-lines.lines ∷ [])))
          (all_at_next _ _ outcomes c.in-Some.own.now.items _ (in_lists c.in-Some.later.now) _ _ c.in-Some-split_first.receipts.now _ _ _
          c.in_ok-lines.lines.items (ap in_lists c.in-Some.ensures.cases.0) c.in-Some-split_first.ensures.cases.0
          (c.workers.invariant.told outcomes are)
          (λ os later unread.
          let told = c.in_ok-lines.ensures os later
          (subst (λ (xs : List Action). AreUnread c.workers.worker 0 xs os later c.as_slice-in-Some.result.now c.workers.missed.now)
          (sym own)
          (subst (λ (rs : List (Record Entry)). AreUnread c.workers.worker 0 c.in-Some.own.now.items os later rs c.workers.missed.now)
          (sym c.as_slice-in-Some.ensures) unread)) in
          (subst (λ (xs : List Action). AreLinesOf xs os c.in_ok-lines.lines.items) own told.0, told.1)));
    }

pub gather-requires-clause-some : goal.gather-requires-clause-some
gather-requires-clause-some c =
    omega (arith, c.in_default.ensures.cases, c.workers.invariant.count, c.workers.invariant.many, c.requires.some.0)

pub gather-requires-clause-like : goal.gather-requires-clause-like
gather-requires-clause-like c =
    let queues = c.workers.queues.items in
    let are = all_at_end _ _ c.requires.there.outcomes (in_lists c.workers.left.now) _ _ (in_queues queues)
    (length-map c.workers.left.now (λ list. list.items) ∙ c.in_default.ensures.cases)
    (c.workers.invariant.told c.requires.there.outcomes c.requires.there.are) in
    subst (λ n. AreDealtLike n c.args.total (in_queues queues)) (length-map queues (λ queue. queue.items))
    (queues_like c.args.total (in_lists c.args.sessions.now) c.requires.there.outcomes (in_queues queues)
    (subst (λ n. AreDealtLike n c.args.total (in_lists c.args.sessions.now)) (sym (length-map c.args.sessions.now (λ list. list.items)))
    c.requires.like) are)

pub returns : goal.returns
returns c = λ outcomes are.
    let queues = c.workers.queues.items in
    let many : length queues ≡ length c.args.sessions.now =
    omega (arith, c.in_default.ensures.cases, c.workers.invariant.count, c.workers.invariant.many) in
    both_ok c.gather.result _ _ _ c.gather.ensures.many c.gather.ensures.gathered (λ lines all gathered. record {
      many = all;
      queues = in_queues queues;
      gathered = subst (λ n. AreDealt n lines.items (in_queues queues))
          (many ∙ sym (length-map c.args.sessions.now (λ list. list.items))) gathered;
      each = all_at_end _ _ outcomes (in_lists c.workers.left.now) _ _ (in_queues queues)
          (length-map c.workers.left.now (λ list. list.items) ∙ c.in_default.ensures.cases) (c.workers.invariant.told outcomes are);
    })
