use Rattle.std.proofs.Common.{◌≡◌, drop}
use Rattle.seq_model.specs.Programs.{after}
use Rattle.client_sessions.specs.Sessions.{SessionProgram, forget_all}
use Rattle.client_sessions.proofs.walk.Walk.forget_all.Given as goal

abbrev pub invariant-loop-i : goal.invariant-loop-i
invariant-loop-i l = (next : SessionProgram)
    → after (forget_all l.waits next) l.fn.self ≡ after (forget_all (drop l.i l.waits) next) l.self
