use Rattle.std.proofs.Common.{ℕ, true, [], refl, sym, ◌∙◌}
use Rattle.replay_log.specs.Worlds as worlds
use Rattle.actor_parts.specs.Dispatch.{after_try}
use Rattle.tx_actor.specs.Running.{Reseats, asked_of, at, seat_of, stage_of}
use Rattle.tx_actor.specs.declared.actor.ActorNotice.TheVariants as told
use Rattle.tx_actor.specs.declared.actor.Stage.TheVariants as stage
use Rattle.tx_actor.proofs.DispatchLemmas.{by_result, does_at_stage, tried_at}
use Rattle.tx_actor.proofs.RunsLemmas.{tried_free}
use Rattle.tx_actor.proofs.ActorBoundsLemmas.{keeps_at, keeps_room}
use Rattle.tx_actor.specs.CopiesByStage.{KeepsCopies}
use Rattle.tx_actor.proofs.CopiesByStageLemmas.{copies_at}
use Rattle.tx_actor.proofs.actor.TxActor.holds_gate.Goals as goal

pub returns-in-Trying-clause-does : goal.returns-in-Trying-clause-does
returns-in-Trying-clause-does g c =
    let old = c.args.self.now in
    let asked = c.in-Trying.asked in
    let tries = c.in-Trying._tries in
    let now = stage.Trying asked tries in
    let holds = at old (stage.Copying asked) in
    let again = λ (n : ℕ). worlds.Trying (asked_of asked) n in
    let next = worlds.Copying (asked_of asked) in
    let done : Reseats old holds told.Quiet (λ a w. worlds.has_tried w a (seat_of old) true asked.collection [] again next tries) =
    λ a w s. tried_free a (seat_of old) _ _ _ w true asked.collection [] again next tries tt refl refl s in
    does_at_stage (λ w a x s. after_try w a x s true) old holds told.Quiet now (sym c.replace-stage.ensures.value ∙ c.in-Trying.is)
    (λ a w s.
    by_result holds told.Quiet a _ _ (tried_at w a (seat_of old) (stage_of now) true asked.collection [] again next tries) (done a w s.1))

pub returns-in_default-clause-does : goal.returns-in_default-clause-does
returns-in_default-clause-does g c =
    absurd (c.in_default.not-Trying c.requires.0 c.requires.1 (c.replace-stage.ensures.value ∙ c.requires.2))

pub returns-in-Trying-clause-keeps : goal.returns-in-Trying-clause-keeps
returns-in-Trying-clause-keeps g c v =
    let old = c.args.self.now in
    let now = stage.Trying c.in-Trying.asked c.in-Trying._tries in
    let next = stage.Copying c.in-Trying.asked in
    keeps_at v old (at old next) now (sym c.replace-stage.ensures.value ∙ c.in-Trying.is)
    (keeps_room v old (at old next) now next refl refl (λ n h. h) (λ h. h) refl)

pub returns-in_default-clause-keeps : goal.returns-in_default-clause-keeps
returns-in_default-clause-keeps g c v =
    absurd (c.in_default.not-Trying c.requires.0 c.requires.1 (c.replace-stage.ensures.value ∙ c.requires.2))

pub returns-in-Trying-clause-leaves : goal.returns-in-Trying-clause-leaves
returns-in-Trying-clause-leaves g c =
    let old = c.args.self.now in
    let now = stage.Trying c.in-Trying.asked c.in-Trying._tries in
    let holds = at old (stage.Copying c.in-Trying.asked) in
    let stay : KeepsCopies (at old now) holds = (tt, refl) in
    copies_at old holds now (sym c.replace-stage.ensures.value ∙ c.in-Trying.is) stay

pub returns-in_default-clause-leaves : goal.returns-in_default-clause-leaves
returns-in_default-clause-leaves g c =
    absurd (c.in_default.not-Trying c.requires.0 c.requires.1 (c.replace-stage.ensures.value ∙ c.requires.2))
