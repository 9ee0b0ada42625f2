use Rattle.vacation_core.proofs.EventListLemmas.{first_allowed, plays_all, plays_first, plays_one}
use Rattle.vacation_core.proofs.world.VacWorld.play_all.Goals as goal

pub loop-event-init : goal.loop-event-init
loop-event-init c = record {
  plays = λ p k. plays_first p c.args.events.now c.args.self.now k;
  allowed = c.requires.allowed;
}

pub play-requires-clause-play : goal.play-requires-clause-play
play-requires-clause-play c =
    let x = c.loop-event.invariant.plays c.requires.play.play c.requires.play.is in
    record { play = x.play; is = x.is }

pub play-requires-clause-allowed : goal.play-requires-clause-allowed
play-requires-clause-allowed c =
    (first_allowed c.loop-event.left.now c.in-Some.later.now c.in-Some.event.now c.in-Some.ensures.cases.0 c.loop-event.invariant.allowed).0

pub loop-event-preserved : goal.loop-event-preserved
loop-event-preserved c = record {
  plays = λ p k. plays_one p c.args.events.now c.loop-event.self c.play.new.self c.loop-event.left.now c.in-Some.later.now
      c.in-Some.event.now
      c.in-Some.ensures.cases.0 c.in_ok-play.ensures (c.loop-event.invariant.plays p k);
  allowed = (first_allowed c.loop-event.left.now c.in-Some.later.now c.in-Some.event.now c.in-Some.ensures.cases.0
      c.loop-event.invariant.allowed).1;
}

pub returns : goal.returns
returns c = λ p k.
    plays_all p c.args.events.now c.loop-event.self c.loop-event.left.now c.in_default.ensures.cases (c.loop-event.invariant.plays p k)
