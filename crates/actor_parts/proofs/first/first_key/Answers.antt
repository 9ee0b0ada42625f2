use Rattle.actor_parts.proofs.first.first_key.Goals as goal

pub returns : goal.returns
returns g c =
    let blank = c.in_ok-blank.blank in
    record {
      memo = blank.memo;
      editions = blank.editions;
      blank = c.in_ok-blank.ensures.memo;
      none = c.in_ok-blank.ensures.editions;
      learnt = c.in_ok-learn_key.ensures.learnt;
    }
