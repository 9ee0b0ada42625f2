use Rattle.std.proofs.Common.{rules, ◌≡◌, ◌∙◌, sym}
use Rattle.std.proofs.lemmas.Bool.{true≢false}
use Rattle.client_sessions.proofs.JoinedLemmas.{same_to, same_from}
use Rattle.client_sessions.proofs.split.are_joined_same.Goals as goal

pub returns-then-are_same : goal.returns-then-are_same
returns-then-are_same c =
    let s = c.split_at.ensures in
    let same : c.args.first.now ≡ c.split_at.result.0.now = search rules in (
      (λ on. same_from c.args.first.now c.args.then.now c.split_at.result.0.now c.split_at.result.1.now c.args.other_first.now
          c.args.other_then.now s.front_len s.by_index.0 same (c.is_joined.ensures.0 on)),
      (λ e. c.is_joined.ensures.1 (same_to c.args.first.now c.args.then.now c.split_at.result.0.now c.split_at.result.1.now
          c.args.other_first.now c.args.other_then.now s.front_len s.by_index.0 e).1),
    )

pub returns-else-are_same : goal.returns-else-are_same
returns-else-are_same c =
    let s = c.split_at.ensures in (
      (λ on. absurd (true≢false (sym on ∙ c.if-are_same.false))),
      (λ e. c.are_same.ensures.1 (same_to c.args.first.now c.args.then.now c.split_at.result.0.now c.split_at.result.1.now
          c.args.other_first.now c.args.other_then.now s.front_len s.by_index.0 e).0),
    )
