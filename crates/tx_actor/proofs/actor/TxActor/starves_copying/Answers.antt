use Rattle.std.proofs.Common.{refl}
use Rattle.tx_machine.proofs.Sets.{put-same}
use Rattle.tx_actor.proofs.ActorBoundsLemmas.{keeps_plain}
use Rattle.tx_actor.specs.declared.actor.Stage.TheVariants as stage
use Rattle.tx_actor.proofs.actor.TxActor.starves_copying.Goals as goal

pub returns-clause-does : goal.returns-clause-does
returns-clause-does g c a w s = ((put-same w.seats a _, s, tt), refl)

pub returns-clause-keeps : goal.returns-clause-keeps
returns-clause-keeps g c v =
    keeps_plain v c.args.self.now _ (stage.ReturningOne c.args.collection) (stage.ReturningOne c.args.collection) refl refl (λ n h. h) (λ
    z. tt)

pub returns-clause-leaves : goal.returns-clause-leaves
returns-clause-leaves g c =
    tt
