use Rattle.std.proofs.Common.{refl}
use Rattle.std.proofs.lemmas.Result.{IfOk-weaker}
use Rattle.vacation_core.proofs.NextSessionLemmas.{ended_now}
use Rattle.vacation_core.proofs.world.VacWorld.end.Goals as goal

pub returns : goal.returns
returns c =
    IfOk-weaker c.push.result _ _ (λ _ h p k. ended_now c.args.self.now _ c.args.actor c.args.cause p refl refl h k) c.push.ensures.ok
