use Rattle.std.proofs.Common.{[], refl, ◌∙◌}
use Rattle.tx_machine.proofs.Sets.{put-same}
use Rattle.replay_log.specs.Worlds.{takes_gates}
use Rattle.tx_actor.specs.Running.{seat_of}
use Rattle.tx_actor.specs.declared.actor.TxActor.{TxActor}
use Rattle.tx_actor.proofs.RunsLemmas.{seat_as}
use Rattle.tx_actor.proofs.ActorBoundsLemmas.{keeps_plain}
use Rattle.tx_actor.specs.declared.actor.Stage.TheVariants as stage
use Rattle.tx_actor.proofs.actor.TxActor.after_locks.Goals as goal

pub returns-clause-does : goal.returns-clause-does
returns-clause-does g c a w hs s =
    let old = c.args.self.now in
    let u : TxActor g.row.V.Denot = record old { stage = c.gating_or_ready.result; wv = c.args.number } in (
      (
        seat_as u _ _ c.gating_or_ready.ensures.shown (put-same w.seats a _) (λ st i. record (seat_of old) {
          stage = (c.gating_or_ready.ensures.stage st ∙ (λ j. takes_gates [] (hs j))) i;
          wv = c.args.number;
        }),
        s,
        c.gating_or_ready.ensures.knows _,
      ),
      refl,
    )

pub returns-clause-keeps : goal.returns-clause-keeps
returns-clause-keeps g c v =
    keeps_plain v c.args.self.now _ (stage.Locking c.args.homes) _ refl refl (λ n h. c.gating_or_ready.ensures.names n h)
    c.gating_or_ready.ensures.room

pub returns-clause-leaves : goal.returns-clause-leaves
returns-clause-leaves g c =
    c.gating_or_ready.ensures.copies (stage.Locking c.args.homes) c.args.self.now.copies.items tt
