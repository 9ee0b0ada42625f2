use Rattle.std.proofs.Common.{◌≡◌, ◌++◌, List, drop}
use Rattle.seq_model.specs.Programs.{after}
use Rattle.vac_model.specs.declared.action.ChangeReply.{ChangeReply}
use Rattle.client_sessions.specs.Sessions.{SessionProgram, change_each}
use Rattle.client_sessions.proofs.walk.Walk.update.Given as goal

abbrev pub invariant-loop-change : goal.invariant-loop-change
invariant-loop-change l = (next : List ChangeReply → SessionProgram)
    → after (change_each l.changes next) l.fn.self
    ≡ after (change_each (drop l.change-index l.changes) (λ more. next (l.made ++ more))) l.self
