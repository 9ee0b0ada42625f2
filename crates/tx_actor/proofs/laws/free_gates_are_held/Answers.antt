use Rattle.std.proofs.Common.{ℕ, true, [], refl}
use Rattle.replay_log.specs.Worlds as worlds
use Rattle.tx_actor.specs.Running.{asked_of, at, seat_of, stage_of}
use Rattle.tx_actor.specs.declared.actor.ActorNotice.TheVariants as told
use Rattle.tx_actor.specs.declared.actor.Stage.TheVariants as stage
use Rattle.tx_actor.proofs.DispatchLemmas.{by_result, tried_at}
use Rattle.tx_actor.proofs.RunsLemmas.{tried_free}
use Rattle.tx_actor.proofs.ActorBoundsLemmas.{keeps_room}
use Rattle.tx_actor.proofs.laws.free_gates_are_held.Goals as goal

pub returns : goal.returns
returns g c r asked tries =
    let now = stage.Trying asked tries in
    let next = stage.Copying asked in
    let t = at r now in
    let again = λ (n : ℕ). worlds.Trying (asked_of asked) n in
    let copies = worlds.Copying (asked_of asked) in (
      (λ a w s.
          by_result (at r next) told.Quiet a _ _ (tried_at w a (seat_of t) (stage_of now) true asked.collection [] again copies tries)
          (tried_free a (seat_of t) _ _ _ w true asked.collection [] again copies tries tt refl refl s.1)),
      (λ v. keeps_room v r (at r next) now next refl refl (λ n h. h) (λ h. h) refl),
      (tt, refl),
    )
