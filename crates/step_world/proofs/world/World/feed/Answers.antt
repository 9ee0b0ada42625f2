use Rattle.std.proofs.Common.{subst, sym}
use Rattle.replay_log.specs.WorldProgress.{AreSmall}
use Rattle.step_world.specs.Serial.{IsFrom}
use Rattle.step_world.specs.Events.{IsFedTo}
use Rattle.step_world.proofs.ReachedLemmas.{well_fed}
use Rattle.step_world.proofs.PromiseLemmas.{fed_to, small_fed}
use Rattle.step_world.proofs.SerialLemmas.{from_fed, serial_from}
use Rattle.step_world.proofs.world.World.feed.Goals as goal

pub invariant_of-self-2 : goal.invariant_of-self-2
invariant_of-self-2 g c _ =
    well_fed c.self.inside.parts c.feed.new.self c.args.event c.in_ok-notice.notice
    (c.self.invariant c.if-self.false) c.in_ok-notice.ensures.ok

pub returns-clause-from : goal.returns-clause-from
returns-clause-from g c = λ o from. from_fed o c.self.inside.parts c.feed.new.self c.args.event c.in_ok-notice.notice
    c.in_ok-notice.ensures.ok (subst (λ s. IsFrom o s.parts) (sym c.self.view_is) from)

pub returns-clause-serial : goal.returns-clause-serial
returns-clause-serial g c = λ o from.
    serial_from c.serial_worlds.ensures.serial c.traces.ensures.state o c.feed.new.self (returns-clause-from g c o from)

pub returns-clause-promised : goal.returns-clause-promised
returns-clause-promised g c =
    subst (λ s. IsFedTo s.parts c.args.event c.feed.new.self c.in_ok-notice.notice) c.self.view_is
    (fed_to (record {
      stand = c.others_stand.ensures;
      others = c.progress.ensures.others;
      made = c.calls.ensures.stepped;
      kept = c.calls.ensures.kept;
      begins = c.serial_worlds.ensures.begins;
      causes = c.refusals.ensures.causes;
      nearer = c.progress.ensures.nearer;
      starved = c.progress.ensures.starved;
      always = c.progress.ensures.always;
    }) c.self.inside.parts c.feed.new.self c.args.event c.in_ok-notice.notice c.in_ok-notice.ensures.ok)

pub returns-clause-small : goal.returns-clause-small
returns-clause-small g c = λ small.
    small_fed c.others_stand.ensures c.self.inside.parts c.feed.new.self c.args.event c.in_ok-notice.notice
    (c.self.invariant c.if-self.false)
    c.in_ok-notice.ensures.ok (subst (λ s. AreSmall s.parts.blocks.blocks) (sym c.self.view_is) small)
