use Rattle.std.proofs.Common.{subst}
use Rattle.tx_actor.specs.declared.actor.ActorNotice.{ActorNotice}
use Rattle.shared_table.specs.Seated.{opening_of}
use Rattle.tx_engine.proofs.CallLemmas.{call_said, under_call}
use Rattle.tx_turns.specs.Driven.{Driven, seat_in}
use Rattle.tx_engine.proofs.calls.driven_call.Goals as goal

pub drive_call-told-requires-clause-under : goal.drive_call-told-requires-clause-under
drive_call-told-requires-clause-under g c =
    under_call (seat_in (opening_of c.args.table.now) c.args.seat.now) c.requires.calls.0 c.requires.calls.1.0 c.requires.calls.1.1

pub reply_told-requires : goal.reply_told-requires
reply_told-requires g c =
    call_said (opening_of c.args.table.now) c.args.seat.now c.drive_call-told.new.seat c.requires.calls.0 c.requires.calls.1.0
    c.requires.calls.1.1 c.drive_call-told.result.0 c.drive_call-told.result.1 c.drive_call-told.ensures.answered
    c.drive_call-told.ensures.driven

pub returns-clause-driven : goal.returns-clause-driven
returns-clause-driven g c = (
  c.drive_call-told.result.1,
  subst (λ (n : ActorNotice _). Driven (opening_of c.args.table.now) c.args.seat.now c.drive_call-told.new.seat n
      c.drive_call-told.result.1)
      c.reply_told.ensures c.drive_call-told.ensures.driven,
)
