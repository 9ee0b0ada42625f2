use Rattle.std.proofs.Common.{List, None, subst}
use Rattle.replay_log.specs.declared.base.Base.{Base}
use Rattle.shared_table.specs.Seated.{opening_of}
use Rattle.tx_turns.specs.Own.{HasOwn}
use Rattle.tx_turns.proofs.DrivenLemmas.{driven_first}
use Rattle.tx_turns.proofs.driving.drive_begin.Goals as goal

pub finish_after-requires-clause-own : goal.finish_after-requires-clause-own
finish_after-requires-clause-own g c =
    subst (λ (bs : List (Base _)). HasOwn c.args.table.now c.begin_next-quiet.new.seat c.begin_next-quiet.new.actor bs)
    c.as_slice.ensures.value
    c.begin_next-quiet.ensures.own

pub finish_after-requires-clause-come : goal.finish_after-requires-clause-come
finish_after-requires-clause-come g c =
    let o = opening_of c.args.table.now in
    let s = c.args.seat.now in
    (s, c.begin_next-quiet.ensures.leads None s (driven_first o s c.requires.under))

pub returns-clause-driven : goal.returns-clause-driven
returns-clause-driven g c =
    let o = opening_of c.args.table.now in
    let s = c.args.seat.now in
    c.finish_after.ensures.leads s (c.begin_next-quiet.ensures.leads None s (driven_first o s c.requires.under))
