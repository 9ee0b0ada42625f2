use Rattle.std.proofs.Common.{refl, sym, ap, ◌∙◌}
use Rattle.tx_machine.proofs.Sets.{put-same}
use Rattle.tx_machine.specs.Actor.{Actor}
use Rattle.tx_machine.specs.Requests.{ask, AskBegin}
use Rattle.tx_actor.proofs.ActorBoundsLemmas.{keeps_to}
use Rattle.tx_actor.specs.declared.actor.Stage.TheVariants as stage
use Rattle.tx_actor.proofs.actor.TxActor.start.Goals as goal

pub returns-clause-does : goal.returns-clause-does
returns-clause-does g c a w s = (
  (
    put-same w.seats a _,
    put-same w.boosted.words.actors a _ ∙ (ap (λ (q : Actor). ask q q.place AskBegin) s ∙ sym c.begin.ensures.actor),
    tt,
  ),
  refl,
)

pub returns-clause-keeps : goal.returns-clause-keeps
returns-clause-keeps g c v =
    keeps_to v c.args.self.now _ c.args.self.now.stage stage.Beginning c.begin.ensures.fits c.begin.ensures.owed refl (λ n h. tt) (λ z. tt)
