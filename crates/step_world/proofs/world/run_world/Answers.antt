use Rattle.std.proofs.Common.{refl, subst}
use Rattle.actor_parts.specs.Openings.{world_of}
use Rattle.step_world.specs.Feeds.{Feeds, fed_all}
use Rattle.step_world.proofs.ReachedLemmas.{fits_as, has_all, has_one, memory_refused}
use Rattle.step_world.proofs.TraceLemmas.{serial_at}
use Rattle.step_world.proofs.world.run_world.Goals as goal

pub loop-event-init : goal.loop-event-init
loop-event-init g c = (c.in_ok-world.ensures.reached refl, c.in_ok-world.ensures.world)

pub loop-event-preserved : goal.loop-event-preserved
loop-event-preserved g c =
    has_one c.args.state (world_of c.args.shape.now.stripes c.args.shape.now.clock c.args.state) c.args.events.now
    c.loop-event.event-index c.event-item.result c.loop-event.world.parts c.feed.new.self.parts c.in_ok-_notice._notice
    c.loop-event-test.true c.event-item.is c.loop-event.invariant
    (subst (λ e. Feeds c.loop-event.world.parts e c.feed.new.self.parts c.in_ok-_notice._notice) c.in_ok-try_copy.ensures
    c.in_ok-_notice.ensures.ok)

pub returns-clause-trace : goal.returns-clause-trace
returns-clause-trace g c =
    let w = world_of c.args.shape.now.stripes c.args.shape.now.clock c.args.state in
    let h = has_all c.args.state w c.args.events.now c.loop-event.event-index c.loop-event.world.parts c.loop-event-test.false
    c.loop-event.invariant in
    c.in_ok-trace.ensures.trace c.args.state (fed_all w c.args.events.now) h.0 h.1

pub returns-clause-serial : goal.returns-clause-serial
returns-clause-serial g c =
    let w = world_of c.args.shape.now.stripes c.args.shape.now.clock c.args.state in
    let h = has_all c.args.state w c.args.events.now c.loop-event.event-index c.loop-event.world.parts c.loop-event-test.false
    c.loop-event.invariant in
    c.in_ok-trace.ensures.serial c.args.state (record { world = fed_all w c.args.events.now; reached = h.0; parts = h.1 })

pub returns-in_err-try_copy-clause-refused : goal.returns-in_err-try_copy-clause-refused
returns-in_err-try_copy-clause-refused g c =
    memory_refused c.from_residual-in_err-try_copy.result
    (fits_as (c.in_ok-world.ensures.fits refl)) c.from_residual-in_err-try_copy.ensures.1

pub returns-in_err-_notice-clause-refused : goal.returns-in_err-_notice-clause-refused
returns-in_err-_notice-clause-refused g c =
    memory_refused c.from_residual-in_err-_notice.result
    (fits_as (c.in_ok-world.ensures.fits refl)) c.from_residual-in_err-_notice.ensures.1

pub returns-in_err-trace-clause-refused : goal.returns-in_err-trace-clause-refused
returns-in_err-trace-clause-refused g c =
    memory_refused c.from_residual-in_err-trace.result (fits_as (c.in_ok-world.ensures.fits refl)) c.from_residual-in_err-trace.ensures.1

pub returns-clause-law : goal.returns-clause-law
returns-clause-law g c = λ _. (
    let w = world_of c.args.shape.now.stripes c.args.shape.now.clock c.args.state in
    let h = has_all c.args.state w c.args.events.now c.loop-event.event-index c.loop-event.world.parts c.loop-event-test.false
    c.loop-event.invariant in
    serial_at c.serial_worlds.ensures.serial c.args.state (fed_all w c.args.events.now) h.0)
