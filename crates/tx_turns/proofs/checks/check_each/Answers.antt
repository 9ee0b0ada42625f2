use Rattle.std.proofs.Common.{arith, ap, refl, subst, ◌∙◌}
use Rattle.step_core.specs.declared.actor.Place.TheVariants.{Check}
use Rattle.tx_actor.specs.declared.actor.Stage.{Stage}
use Rattle.tx_actor.specs.declared.actor.ActorNotice.{ActorNotice}
use Rattle.tx_actor.specs.declared.actor.TxActor.{TxActor}
use Rattle.shared_table.specs.Seated.{opening_of}
use Rattle.tx_turns.specs.Ties.{Ties}
use Rattle.tx_turns.specs.Own.{HasOwn}
use Rattle.tx_turns.specs.Driven.{LeadsOn}
use Rattle.tx_turns.proofs.StepsLemmas.{starts}
use Rattle.tx_turns.proofs.StraightLemmas.{at_own_place, come_then, leads_from}
use Rattle.tx_turns.specs.Straight.{is_locking}
use Rattle.tx_turns.proofs.checks.check_each.Goals as goal

pub loop-i-init : goal.loop-i-init
loop-i-init g c =
    let t = c.args.table.now in
    let s = c.args.seat.now in
    let here = at_own_place c.args.actor.now (Check c.args.first) c.requires.place in (
      refl,
      refl,
      subst (λ (r : TxActor _). Ties t s r) here c.requires.ties,
      subst (λ (r : TxActor _). HasOwn t s r c.args.bases.now) here c.requires.own,
      starts (opening_of t) s,
      omega arith,
    )

pub check_on-requires-clause-stage : goal.check_on-requires-clause-stage
check_on-requires-clause-stage g c = ap (λ (s : Stage _). is_locking s) c.loop-i.invariant.0 ∙ c.requires.stage

pub loop-i-preserved : goal.loop-i-preserved
loop-i-preserved g c =
    let e = c.in-Ok.ensures in (
      e.stage ∙ c.loop-i.invariant.0,
      e.reads ∙ c.loop-i.invariant.1,
      e.led.ties,
      e.led.own,
      come_then (opening_of c.args.table.now) c.args.seat.now c.loop-i.seat c.check_on.new.seat c.loop-i.invariant.4 e.led.leads,
      omega arith,
    )

pub returns-in-Err-clause-leads : goal.returns-in-Err-clause-leads
returns-in-Err-clause-leads g c =
    subst (λ (n : ActorNotice _). LeadsOn (opening_of c.args.table.now) c.args.seat.now c.check_on.new.seat n) c.report.ensures.told
    (leads_from (opening_of c.args.table.now) c.args.seat.now c.loop-i.seat c.check_on.new.seat c.in-Err.told c.loop-i.invariant.4
    c.in-Err.ensures.invalid.leads)

pub check_last-requires-clause-stage : goal.check_last-requires-clause-stage
check_last-requires-clause-stage g c = ap (λ (s : Stage _). is_locking s) c.loop-i.invariant.0 ∙ c.requires.stage

pub returns-clause-leads : goal.returns-clause-leads
returns-clause-leads g c =
    subst (λ (n : ActorNotice _). LeadsOn (opening_of c.args.table.now) c.args.seat.now c.check_last.new.seat n) c.report-quiet.ensures.told
    (leads_from (opening_of c.args.table.now) c.args.seat.now c.loop-i.seat c.check_last.new.seat c.check_last.result c.loop-i.invariant.4
    c.check_last.ensures.leads)
