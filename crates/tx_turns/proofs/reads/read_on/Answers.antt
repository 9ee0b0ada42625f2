use Rattle.std.proofs.Common.{subst}
use Rattle.tx_actor.specs.declared.actor.ActorNotice.{ActorNotice}
use Rattle.shared_table.specs.Seated.{opening_of}
use Rattle.tx_turns.specs.Driven.{LeadsOn}
use Rattle.tx_turns.proofs.StraightLemmas.{leads_then}
use Rattle.tx_turns.proofs.reads.read_on.Goals as goal

pub returns-in-Ok-clause-leads : goal.returns-in-Ok-clause-leads
returns-in-Ok-clause-leads g c =
    let o = opening_of c.args.table.now in
    subst (λ (n : ActorNotice _). LeadsOn o c.args.seat.now c.again_on.new.seat n) c.report.ensures.told
    (leads_then o c.args.seat.now c.look_on.new.seat c.again_on.new.seat c.again_on.result c.in-Ok.ensures.led.leads
    (leads_then o c.look_on.new.seat c.fetch_on-value.new.seat c.again_on.new.seat c.again_on.result c.fetch_on-value.ensures.leads
    c.again_on.ensures.leads))
