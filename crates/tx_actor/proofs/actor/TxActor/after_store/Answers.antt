use Rattle.std.proofs.Common.{refl}
use Rattle.tx_machine.proofs.Sets.{put-same}
use Rattle.replay_log.specs.Worlds.{Storing}
use Rattle.tx_actor.specs.declared.actor.TxActor.{TxActor}
use Rattle.tx_actor.specs.declared.actor.Stage.TheVariants as stage
use Rattle.tx_actor.proofs.ActorBoundsLemmas.{keeps_plain}
use Rattle.tx_actor.proofs.RunsLemmas.{seat_left}
use Rattle.tx_actor.proofs.actor.TxActor.after_store.Goals as goal

pub returns-clause-does : goal.returns-clause-does
returns-clause-does g c a w x of s =
    let u : TxActor g.row.V.Denot = record c.args.self.now { stage = stage.Storing c.args.homes } in
    ((seat_left u _ x (Storing c.args.homes.items) refl (put-same w.seats a _) of (λ t. refl), s, tt), refl)

pub returns-clause-keeps : goal.returns-clause-keeps
returns-clause-keeps g c v =
    keeps_plain v c.args.self.now _ (stage.Storing c.args.homes) (stage.Storing c.args.homes) refl refl (λ n h. h) (λ z. tt)

pub returns-clause-leaves : goal.returns-clause-leaves
returns-clause-leaves g c =
    (λ k h. h, refl)
