use Rattle.seq_model.specs.declared.event.Notice.TheVariants.{Quiet}
use Rattle.vacation_core.proofs.ClientLemmas.{again, at_first, in_time, spoken, told_last}
use Rattle.vacation_core.proofs.asking.ask.Goals as goal

pub returns-in_default : goal.returns-in_default
returns-in_default c =
    spoken c.args.world.now.parts c.args.actor c.args.request c.feed.new.self.parts c.in_ok-notice.notice 0
    (at_first c.args.world.now.parts c.feed.new.self.parts c.args.actor c.args.request c.in_ok-notice.notice c.in_ok-notice.ensures.ok)
    (told_last c.in_ok-notice.notice c.in_default.not-Quiet)

pub loop-init : goal.loop-init
loop-init c =
    at_first c.args.world.now.parts c.feed.new.self.parts c.args.actor c.args.request Quiet (rw c.in-Quiet.is at c.in_ok-notice.ensures.ok)

pub returns-in_default-2 : goal.returns-in_default-2
returns-in_default-2 c =
    spoken c.args.world.now.parts c.args.actor c.args.request c.feed-in-loop.new.self.parts c.in_ok-notice-2.notice _
    (again c.args.world.now.parts c.loop.world.parts c.feed-in-loop.new.self.parts c.args.actor c.args.request Quiet c.in_ok-notice-2.notice
    c.loop.counter tt c.loop.invariant c.in_ok-notice-2.ensures.ok)
    (told_last c.in_ok-notice-2.notice c.in_default-2.not-Quiet)

pub loop-preserved : goal.loop-preserved
loop-preserved c =
    again c.args.world.now.parts c.loop.world.parts c.feed-in-loop.new.self.parts c.args.actor c.args.request Quiet Quiet c.loop.counter tt
    c.loop.invariant (rw c.in-Quiet-2.is at c.in_ok-notice-2.ensures.ok)

pub returns : goal.returns
returns c =
    in_time c.args.world.now.parts c.args.actor c.args.request c.loop.world.parts Quiet c.loop.counter c.loop-test.false c.loop.invariant
