use Rattle.std.proofs.Common.{refl, sym, ◌∙◌}
use Rattle.tx_machine.proofs.Sets.{put-same}
use Rattle.replay_log.specs.Worlds.{Open}
use Rattle.tx_actor.specs.Running.{seat_of}
use Rattle.tx_actor.proofs.ActorBoundsLemmas.{keeps_plain}
use Rattle.tx_actor.specs.declared.actor.Stage.TheVariants as stage
use Rattle.tx_actor.proofs.actor.TxActor.read.Goals as goal

pub returns-clause-does : goal.returns-clause-does
returns-clause-does g c a w s = (
  (
    put-same w.seats a _
        ∙ sym (λ i. record (seat_of c.args.self.now) { stage = Open; calls = c.push_reserved.ensures.items i }),
    s,
    tt,
  ),
  refl,
)

pub returns-clause-keeps : goal.returns-clause-keeps
returns-clause-keeps g c v = keeps_plain v c.args.self.now _ stage.Idle stage.Open refl refl (λ n h. tt) (λ z. tt)

pub returns-clause-leaves : goal.returns-clause-leaves
returns-clause-leaves g c =
    (tt, refl)
