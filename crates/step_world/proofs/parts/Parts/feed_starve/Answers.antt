use Rattle.std.proofs.Common.{refl, subst, sym}
use Rattle.seq_model.specs.declared.event.Event.TheVariants.{Starve}
use Rattle.step_world.specs.Feeds.{Feeds}
use Rattle.step_world.proofs.FeedLemmas.{feeds_at}
use Rattle.step_world.proofs.parts.Parts.feed_starve.Goals as goal

pub returns : goal.returns
returns g c =
    let at = c.in-Some.ensures in
    subst (λ n. Feeds c.args.self.now (Starve c.args.actor) c.starve-told.new.self n) (sym c.notice.ensures)
    (feeds_at (λ b. Starve b)
    (λ b. refl) c.args.self.now c.starve-told.new.self c.args.actor c.in-Some.i c.starve-told.result at.0 at.1 c.starve-told.ensures)
