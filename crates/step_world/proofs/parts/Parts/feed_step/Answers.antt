use Rattle.std.proofs.Common.{refl, subst, sym}
use Rattle.seq_model.specs.declared.event.Event.TheVariants.{Step}
use Rattle.step_world.specs.Feeds.{Feeds}
use Rattle.step_world.proofs.FeedLemmas.{feeds_at, never_both}
use Rattle.step_world.proofs.parts.Parts.feed_step.Goals as goal

pub returns-clause-ok : goal.returns-clause-ok
returns-clause-ok g c =
    let at = c.in-Some.ensures in
    subst (λ n. Feeds c.args.self.now (Step c.args.actor) c.step.new.self n) (sym c.notice.ensures)
    (feeds_at (λ b. Step b)
    (λ b. refl) c.args.self.now c.step.new.self c.args.actor c.in-Some.i c.in_ok-told.told at.0 at.1 c.in_ok-told.ensures.ok)

pub returns-in_err-told-clause-served : goal.returns-in_err-told-clause-served
returns-in_err-told-clause-served g c = λ nothing. (
    let at = c.in-Some.ensures in
    absurd (never_both c.args.self.now c.args.actor c.in-Some.i c.requires.world at.0 at.2 nothing c.in_err-told.ensures.wants))
