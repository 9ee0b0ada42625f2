use Rattle.std.proofs.Common.{List, None, Option, subst}
use Rattle.replay_log.specs.declared.base.Base.{Base}
use Rattle.seq_model.specs.declared.record.Record.{Record}
use Rattle.tx_actor.specs.declared.actor.ActorNotice.{ActorNotice}
use Rattle.shared_table.specs.Seated.{opening_of}
use Rattle.tx_turns.specs.Own.{HasOwn}
use Rattle.tx_turns.proofs.DrivenLemmas.{driven_first, driven_on}
use Rattle.tx_turns.proofs.StraightLemmas.{latest_none}
use Rattle.tx_turns.specs.Driven.{Driven}
use Rattle.tx_turns.proofs.driving.close_through.Goals as goal

pub finish_after-requires-clause-own : goal.finish_after-requires-clause-own
finish_after-requires-clause-own g c =
    subst (λ (bs : List (Base _)). HasOwn c.args.table.now c.step-told.new.seat c.step-told.new.actor bs) c.as_slice.ensures.value
    c.step-told.ensures.own

pub finish_after-requires-clause-come : goal.finish_after-requires-clause-come
finish_after-requires-clause-come g c =
    let o = opening_of c.args.table.now in
    let s = c.args.seat.now in (
      s,
      subst (λ (z : ActorNotice _ × Option (Record _)). Driven o s c.step-told.new.seat z.0 z.1)
          (λ i. (c.report-quiet.ensures.told i, latest_none c.step-told.result.1 i))
          (driven_on c.args.table.now s s c.step-told.new.seat c.args.actor.now c.step-told.result.0 None c.requires.ties
          (driven_first o s c.requires.under) c.step-told.ensures.turned c.step-told.result.1 c.step-told.ensures.receipt),
    )

pub returns-clause-driven : goal.returns-clause-driven
returns-clause-driven g c =
    let o = opening_of c.args.table.now in
    let s = c.args.seat.now in
    c.finish_after.ensures.leads s
    (subst (λ (z : ActorNotice _ × Option (Record _)). Driven o s c.step-told.new.seat z.0 z.1)
    (λ i. (c.report-quiet.ensures.told i, latest_none c.step-told.result.1 i))
    (driven_on c.args.table.now s s c.step-told.new.seat c.args.actor.now c.step-told.result.0 None c.requires.ties
    (driven_first o s c.requires.under) c.step-told.ensures.turned c.step-told.result.1 c.step-told.ensures.receipt))
