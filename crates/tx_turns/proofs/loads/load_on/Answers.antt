use Rattle.std.proofs.Common.{subst}
use Rattle.tx_actor.specs.declared.actor.ActorNotice.{ActorNotice}
use Rattle.tx_actor.specs.declared.actor.TxActor.{TxActor}
use Rattle.shared_table.specs.Seated.{opening_of}
use Rattle.step_core.specs.declared.actor.Place.TheVariants.{Look}
use Rattle.tx_turns.specs.Own.{HasOwn}
use Rattle.tx_turns.specs.Driven.{LeadsOn}
use Rattle.tx_turns.proofs.StraightLemmas.{at_own_place, leads_then}
use Rattle.tx_turns.proofs.loads.load_on.Goals as goal

pub returns-in-Ok-clause-leads : goal.returns-in-Ok-clause-leads
returns-in-Ok-clause-leads g c =
    let o = opening_of c.args.table.now in
    subst (λ (n : ActorNotice _). LeadsOn o c.args.seat.now c.again_for.new.seat n) c.report.ensures.told
    (leads_then o c.args.seat.now c.look_for.new.seat c.again_for.new.seat c.again_for.result c.in-Ok.ensures.led.leads
    (leads_then o c.look_for.new.seat c.fetch_for-value.new.seat c.again_for.new.seat c.again_for.result c.fetch_for-value.ensures.leads
    c.again_for.ensures.leads))

pub look_for-requires-clause-own : goal.look_for-requires-clause-own
look_for-requires-clause-own g c =
    subst (λ (r : TxActor _). HasOwn c.args.table.now c.args.seat.now r c.args.bases.now)
    (at_own_place c.args.actor.now (Look c.args.location) c.requires.place) c.requires.own
