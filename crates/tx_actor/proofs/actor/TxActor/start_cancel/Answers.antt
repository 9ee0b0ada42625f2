use Rattle.std.proofs.Common.{refl}
use Rattle.replay_log.specs.Worlds.{at_stage}
use Rattle.tx_actor.specs.Running.{seat_of}
use Rattle.step_core.specs.Shown.{actor_of}
use Rattle.actor_parts.specs.Shows.{ending}
use Rattle.tx_actor.specs.declared.actor.TxActor.{TxActor}
use Rattle.tx_actor.proofs.RunsLemmas.{cancels_as, seat_as}
use Rattle.tx_actor.proofs.ActorBoundsLemmas.{keeps_to}
use Rattle.tx_actor.specs.declared.actor.Stage.TheVariants as stage
use Rattle.tx_actor.proofs.actor.TxActor.start_cancel.Goals as goal

pub returns-clause-does : goal.returns-clause-does
returns-clause-does g c a w s =
    let old = c.args.self.now in
    let u : TxActor g.row.V.Denot = record old { words = c.cancel.new.words; stage = c.leaving_or_cancelling.result } in
    let z = seat_of old in
    let r = cancels_as a z (ending z (actor_of u.words)) _ _ _ w
    (c.leaving_or_cancelling.ensures.knows _) c.cancel.ensures.actor refl s in (
      (
        seat_as u _ _ c.leaving_or_cancelling.ensures.shown r.0 (λ st i. at_stage z (c.leaving_or_cancelling.ensures.stage st i)),
        r.1,
        r.2,
      ),
      refl,
    )

pub returns-clause-keeps : goal.returns-clause-keeps
returns-clause-keeps g c v =
    keeps_to v c.args.self.now _ stage.Idle _ c.cancel.ensures.keeps.fits c.cancel.ensures.keeps.owed refl (λ n h.
    c.leaving_or_cancelling.ensures.names n) c.leaving_or_cancelling.ensures.room

pub returns-clause-leaves : goal.returns-clause-leaves
returns-clause-leaves g c =
    c.leaving_or_cancelling.ensures.copies stage.Idle c.args.self.now.copies.items c.args.self.now.copies.items
