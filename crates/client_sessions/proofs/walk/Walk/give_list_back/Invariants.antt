use Rattle.std.proofs.Common.{◌≡◌, drop}
use Rattle.seq_model.specs.Programs.{after}
use Rattle.client_sessions.specs.Sessions.{SessionProgram, give_all_back}
use Rattle.client_sessions.proofs.walk.Walk.give_list_back.Given as goal

abbrev pub invariant-loop-i : goal.invariant-loop-i
invariant-loop-i l = (next : SessionProgram)
    → after (give_all_back l.bookings next) l.fn.self ≡ after (give_all_back (drop l.i l.bookings) next) l.self
