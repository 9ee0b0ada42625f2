use Rattle.step_world.proofs.ReachedLemmas.{well_fed}
use Rattle.interleavings.proofs.opening.feed.Goals as goal

pub returns : goal.returns
returns c = well_fed c.args.parts.now c.feed.new.self c.args.event c.in_ok-notice.notice c.requires c.in_ok-notice.ensures.ok
