use Rattle.std.proofs.Common.{refl, sym, ap, ◌∙◌}
use Rattle.tx_machine.proofs.Sets.{put-same}
use Rattle.tx_machine.specs.Actor.{Actor}
use Rattle.tx_machine.specs.Requests.{ask, AskAbort}
use Rattle.tx_actor.specs.Running.{is_recorded, at}
use Rattle.tx_actor.proofs.RunsLemmas.{seat_as}
use Rattle.tx_actor.proofs.ActorBoundsLemmas.{keeps_cleared}
use Rattle.tx_actor.specs.declared.actor.Stage.TheVariants as stage
use Rattle.tx_actor.proofs.CopiesByStageLemmas.{copies_to}
use Rattle.tx_actor.proofs.actor.TxActor.starve_begin.Goals as goal

pub returns-clause-does : goal.returns-clause-does
returns-clause-does g c a w s = (
  (
    seat_as c.clear.new.self _ _ (ap is_recorded c.clear.ensures.stage) (put-same w.seats a _) c.clear.ensures.seat,
    put-same w.boosted.words.actors a _
        ∙ (ap (λ (q : Actor). ask q q.place AskAbort) s ∙ sym (c.clear.ensures.words ∙ c.abort.ensures.actor)),
    c.clear.ensures.knows _ tt,
  ),
  refl,
)

pub returns-clause-keeps : goal.returns-clause-keeps
returns-clause-keeps g c v =
    keeps_cleared v c.args.self.now c.clear.new.self c.abort.new.words stage.Idle stage.Idle c.abort.ensures.keeps c.clear.ensures.rest
    c.clear.ensures.stage (λ n h. tt) (λ z. tt)

pub returns-clause-leaves : goal.returns-clause-leaves
returns-clause-leaves g c =
    copies_to (at c.args.self.now stage.Idle) c.clear.new.self stage.Idle c.clear.ensures.stage tt
