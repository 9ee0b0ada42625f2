use Rattle.std.proofs.Common.{subst}
use Rattle.actor_parts.specs.First.{IsBlank}
use Rattle.actor_parts.proofs.first.first_touch.Goals as goal

pub returns : goal.returns
returns g c =
    let blank = c.in_ok-blank.blank in
    record {
      memo = blank.memo;
      editions = blank.editions;
      blank = subst (λ k. IsBlank c.args.stripes k blank.memo) c.memo_kind.ensures c.in_ok-blank.ensures.memo;
      none = c.in_ok-blank.ensures.editions;
      learnt = c.in_ok-editions.ensures.learnt;
    }
