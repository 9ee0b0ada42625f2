use Rattle.std.proofs.Common.{refl, subst, sym}
use Rattle.seq_model.specs.declared.event.Event.TheVariants.{Ask}
use Rattle.step_world.specs.Feeds.{Feeds}
use Rattle.step_world.proofs.FeedLemmas.{feeds_at}
use Rattle.step_world.proofs.parts.Parts.feed_ask.Goals as goal

pub returns : goal.returns
returns g c =
    let at = c.in-Some.ensures in
    subst (λ n. Feeds c.args.self.now (Ask c.args.actor c.args.request) c.ask.new.self n) (sym c.notice.ensures)
    (feeds_at (λ b. Ask b c.args.request)
    (λ b. refl) c.args.self.now c.ask.new.self c.args.actor c.in-Some.i c.in_ok-told.told at.0 at.1 c.in_ok-told.ensures.ok)
