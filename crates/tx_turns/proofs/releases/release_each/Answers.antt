use Rattle.std.proofs.Common.{subst}
use Rattle.tx_actor.specs.declared.actor.ActorNotice.{ActorNotice}
use Rattle.shared_table.specs.Seated.{opening_of}
use Rattle.tx_turns.specs.Driven.{LeadsOn}
use Rattle.tx_turns.proofs.StepsLemmas.{starts}
use Rattle.tx_turns.proofs.StraightLemmas.{come_then, leads_from}
use Rattle.tx_turns.proofs.releases.release_each.Goals as goal

pub loop-seat-init : goal.loop-seat-init
loop-seat-init g c = (
  c.requires.ties,
  c.requires.own,
  c.requires.stage,
  c.requires.place,
  c.requires.some,
  starts (opening_of c.args.table.now) c.args.seat.now,
)

pub loop-seat-preserved : goal.loop-seat-preserved
loop-seat-preserved g c =
    let e = c.release_on.ensures in (
      e.led.ties,
      e.led.own,
      e.stage,
      e.place,
      e.some,
      come_then (opening_of c.args.table.now) c.args.seat.now c.loop-seat.seat c.release_on.new.seat c.loop-seat.invariant.5 e.led.leads,
    )

pub returns-clause-leads : goal.returns-clause-leads
returns-clause-leads g c =
    subst (λ (n : ActorNotice _). LeadsOn (opening_of c.args.table.now) c.args.seat.now c.release_last.new.seat n) c.report.ensures.told
    (leads_from (opening_of c.args.table.now) c.args.seat.now c.loop-seat.seat c.release_last.new.seat c.release_last.result
    c.loop-seat.invariant.5 c.release_last.ensures.leads)
