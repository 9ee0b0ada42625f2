-- A lent client may go to any thread, where the values of its store may go there and be shared.
use denote.RattleType.{RattleType}
use denote.Param.Send.{IsSend, IsSync, sendable, part_keyless}
use denote.Struct.Tuple.{TupleAt}
use Rattle.std.proofs.Common.{ℕ, List, [], ◌∷◌}
use Rattle.std.proofs.Crossing.{crosses}
use Rattle.std.below.core.specs.contracts.marker.ClosureMark as ClosureMark
use Rattle.atomic_table.specs.contracts.shared.Seat as Place
use Rattle.atomic_table.proofs.shared.Seat.TheSendSync as place
use Rattle.counted_slot.proofs.Counted.TheSendSync as counted
use Rattle.actor_parts.proofs.Boxed.TheSendSync as boxed
use Rattle.replay_log.proofs.base.Base.TheSendSync as base
use Rattle.tx_actor.proofs.actor.TxActor.TheSendSync as actor
use Rattle.shared_table.specs.contracts.seat.EventsSinceStep as EventsSinceStep
use Rattle.shared_table.specs.contracts.seat.Seat as Seat
use Rattle.shared_table.proofs.home.Home.TheSendSync as base_home
use Rattle.shared_table.proofs.table.TxTable.TheSendSync as table
use Rattle.tx_engine.specs.contracts.seats.TxSeat as TxSeat
use Rattle.tx_engine.proofs.reply_room.ReplyRoom.TheSendSync as replies
use Rattle.wolimevar.specs.contracts.homes.Back as Back
use Rattle.wolimevar.specs.contracts.homes.Home as Home
use Rattle.wolimevar.specs.contracts.homes.Own as Own
use Rattle.tx_client.specs.contracts.runner.Runner as Runner
use Rattle.wolimevar.specs.contracts.lent.LentClient as LentClient

-- who has a `&` to a place has shares of the whole of it
place_sync : (S V : RattleType) → IsSend S → IsSync (Place.the_row S V)
place_sync S V s = record { shared = λ d b o κ q. part_keyless (Place.the_row S V) (place.the_send S V s) q d b o }

-- what every closure has beside what it captures
pub mark_send : (A : RattleType) → IsSend (ClosureMark.the_row A)
mark_send A = search (sendable, crosses) depth 30

pub captures_send : (name : List ℕ) (A B C : RattleType) → IsSend A → IsSend B → IsSend C → IsSend (TupleAt name (A ∷ B ∷ C ∷ []))
captures_send name A B C a b c = search sendable depth 30

-- Each type as a field of another, from its own fields.
module _ (V : RattleType) where
  events_send : IsSend (EventsSinceStep.the_field V).row
  events_send = search (sendable, crosses) depth 30

  events_sync : IsSync (EventsSinceStep.the_field V).row
  events_sync = search (sendable, crosses) depth 30

  module _ (s : IsSend V) where
    seat_send : IsSend (Seat.the_field V).row
    seat_send = search (sendable, crosses, place.the_send, events_send, boxed.the_send, base_home.the_send, base.the_send) depth 30

    seat_sync : IsSync (Seat.the_field V).row
    seat_sync = search (sendable, crosses, place_sync, events_sync, boxed.the_send, base_home.the_send, base.the_send) depth 30

    tx_seat_send : IsSend (TxSeat.the_field V).row
    tx_seat_send = search (sendable, crosses, seat_send, actor.the_field_send, boxed.the_send, base.the_send, replies.the_send) depth 30

    runner_send : IsSend (Runner.the_field V).row
    runner_send = search (sendable, boxed.the_send, tx_seat_send) depth 30

    back_send : IsSend (Back.the_row V)
    back_send = search (sendable, tx_seat_send) depth 30

    module _ (y : IsSync V) where
      tx_seat_sync : IsSync (TxSeat.the_field V).row
      tx_seat_sync = search (sendable, crosses, seat_sync, actor.the_field_sync, boxed.the_sync, base.the_sync, replies.the_sync) depth 30

      back_sync : IsSync (Back.the_row V)
      back_sync = search (sendable, tx_seat_sync) depth 30

      home_send : IsSend (Home.the_field V).row
      home_send = search (sendable, crosses, counted.the_send, counted.the_sync, back_send, back_sync) depth 30

      own_send : IsSend (Own.the_field V).row
      own_send = search (sendable, crosses, table.the_send, table.the_sync, home_send) depth 30

      pub lent_client_send : IsSend (LentClient.the_row V)
      lent_client_send = search (sendable, own_send, runner_send) depth 30
