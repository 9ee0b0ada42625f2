use Rattle.std.proofs.Common.{◌+◌, ap, subst, sym, ◌∙◌}
use Rattle.step_core.specs.declared.actor.Place.TheVariants.{Take}
use Rattle.tx_actor.specs.declared.actor.TxActor.{TxActor}
use Rattle.shared_table.specs.Seated.{opening_of}
use Rattle.tx_turns.specs.Ties.{Ties}
use Rattle.tx_turns.specs.Own.{HasOwn}
use Rattle.tx_turns.proofs.StraightLemmas.{err_then, led_then, ok_then}
use Rattle.tx_turns.specs.Straight.{at_place, is_locking}
use Rattle.tx_turns.proofs.locks.lock_on.Goals as goal

pub take_on-requires-clause-ties : goal.take_on-requires-clause-ties
take_on-requires-clause-ties g c =
    subst (λ (r : TxActor _). Ties c.args.table.now c.seek_on.new.seat (at_place r (Take c.in-Ok.location c.in-Ok.version (c.args.i + 1))))
    (sym c.in-Ok.ensures.actor) c.in-Ok.ensures.led.ties

pub take_on-requires-clause-own : goal.take_on-requires-clause-own
take_on-requires-clause-own g c =
    subst (λ (r : TxActor _). HasOwn c.args.table.now c.seek_on.new.seat
    (at_place r (Take c.in-Ok.location c.in-Ok.version (c.args.i + 1))) c.args.bases.now) (sym c.in-Ok.ensures.actor)
    c.in-Ok.ensures.led.own

pub take_on-requires-clause-stage : goal.take_on-requires-clause-stage
take_on-requires-clause-stage g c = ap (λ (r : TxActor _). is_locking r.stage) c.in-Ok.ensures.actor ∙ c.requires.stage

pub returns-in-Ok-clause-led : goal.returns-in-Ok-clause-led
returns-in-Ok-clause-led g c =
    ok_then c.take_on.result (λ h. led_then c.args.table.now c.args.seat.now c.seek_on.new.seat c.take_on.new.seat _ _ c.args.bases.now
    c.in-Ok.ensures.led.leads h) c.take_on.ensures.led

pub returns-in-Ok-clause-stage : goal.returns-in-Ok-clause-stage
returns-in-Ok-clause-stage g c =
    ok_then c.take_on.result (λ h. h ∙ ap (λ (r : TxActor _). r.stage) c.in-Ok.ensures.actor) c.take_on.ensures.stage

pub returns-in-Ok-clause-writes : goal.returns-in-Ok-clause-writes
returns-in-Ok-clause-writes g c =
    ok_then c.take_on.result (λ h. h ∙ ap (λ (r : TxActor _). r.words.writes) c.in-Ok.ensures.actor) c.take_on.ensures.writes

pub returns-in-Ok-clause-busy : goal.returns-in-Ok-clause-busy
returns-in-Ok-clause-busy g c =
    err_then c.take_on.result (λ e h. led_then c.args.table.now c.args.seat.now c.seek_on.new.seat c.take_on.new.seat _ _ c.args.bases.now
    c.in-Ok.ensures.led.leads h) c.take_on.ensures.busy
