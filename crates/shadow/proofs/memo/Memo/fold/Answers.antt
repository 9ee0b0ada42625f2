use Rattle.std.proofs.Common.{subst}
use Rattle.replay_log.specs.Base.{editions_of}
use Rattle.replay_log.specs.Log.{AreRaised}
use Rattle.shadow.specs.Memo.{MemoView}
use Rattle.shadow.proofs.memo.Memo.fold.Goals as goal

pub returns-clause-editions : goal.returns-clause-editions
returns-clause-editions g c =
    subst (λ (m : MemoView g.row.V.Denot). AreRaised m.locations (editions_of c.args.base.now) (editions_of c.fold.new.base))
    c.self.view_is c.fold.ensures.editions
