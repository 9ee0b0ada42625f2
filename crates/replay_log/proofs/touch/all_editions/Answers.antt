use Rattle.std.proofs.Common.{◌++◌, ◌∷◌, [], ◌∙◌}
use Rattle.replay_log.proofs.TouchLemmas.{editions_next}
use Rattle.replay_log.proofs.touch.all_editions.Goals as goal

pub loop-location-preserved : goal.loop-location-preserved
loop-location-preserved g c =
    let l = c.loop-location.location in
    let es = c.args.base.now.editions in
    c.in_ok-push.ensures.ok
    ∙ (λ i. c.loop-location.invariant i ++ (l, c.edition.ensures i) ∷ [])
    ∙ editions_next es l
