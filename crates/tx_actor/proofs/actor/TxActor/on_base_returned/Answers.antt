use Rattle.std.proofs.Common.{sym, ◌∙◌, ◌≡◌, false, subst}
use Rattle.tx_actor.specs.Running.{at, seat_at, stage_of}
use Rattle.tx_actor.specs.declared.actor.Stage.TheVariants as stage
use Rattle.tx_actor.proofs.DispatchLemmas.{home_at_stage, home_else, home_stays}
use Rattle.tx_actor.proofs.ActorBoundsLemmas.{keeps_at, keeps_same}
use Rattle.tx_actor.proofs.CopiesByStageLemmas.{copies_at, copies_same}
use Rattle.actor_parts.specs.Dispatch.{is_loading}
use Rattle.tx_actor.specs.declared.actor.Stage.{Stage}
use Rattle.tx_actor.proofs.actor.TxActor.on_base_returned.Goals as goal

pub returns-in-Homing-clause-does : goal.returns-in-Homing-clause-does
returns-in-Homing-clause-does g c =
    home_at_stage c.args.self.now c.first_home.new.self c.first_home.result (stage.Homing c.in-Homing.homes)
    (sym c.replace-stage.ensures.value ∙ c.in-Homing.is) c.first_home.ensures.does

pub returns-in_default-clause-does : goal.returns-in_default-clause-does
returns-in_default-clause-does g c =
    let other = c.replace-stage.result in
    home_at_stage c.args.self.now c.unchanged.new.self c.unchanged.result other (sym c.replace-stage.ensures.value)
    (home_stays (at c.args.self.now other) c.unchanged.new.self c.unchanged.result c.unchanged.ensures.stage c.unchanged.ensures.told
    (λ a w. home_else w a (seat_at (w.seats a) (at c.args.self.now other)) other c.in_default.not-Homing))

pub returns-in-Homing-clause-keeps : goal.returns-in-Homing-clause-keeps
returns-in-Homing-clause-keeps g c v =
    keeps_at v c.args.self.now c.first_home.new.self (stage.Homing c.in-Homing.homes) (sym c.replace-stage.ensures.value ∙ c.in-Homing.is)
    (c.first_home.ensures.keeps v)

pub returns-in_default-clause-keeps : goal.returns-in_default-clause-keeps
returns-in_default-clause-keeps g c v =
    keeps_at v c.args.self.now c.unchanged.new.self c.replace-stage.result (sym c.replace-stage.ensures.value)
    (keeps_same v (at c.args.self.now c.replace-stage.result) c.unchanged.new.self c.unchanged.ensures.stage)

pub returns-in-Homing-clause-leaves : goal.returns-in-Homing-clause-leaves
returns-in-Homing-clause-leaves g c quiet =
    copies_at c.args.self.now c.first_home.new.self (stage.Homing c.in-Homing.homes) (sym c.replace-stage.ensures.value ∙ c.in-Homing.is)
    c.first_home.ensures.leaves

pub returns-in_default-clause-leaves : goal.returns-in_default-clause-leaves
returns-in_default-clause-leaves g c quiet =
    copies_at c.args.self.now c.unchanged.new.self c.replace-stage.result (sym c.replace-stage.ensures.value)
    (copies_same (at c.args.self.now c.replace-stage.result) c.unchanged.new.self
    (subst (λ (z : Stage g.row.V.Denot). is_loading (stage_of z) ≡ false) (sym c.replace-stage.ensures.value) quiet)
    c.unchanged.ensures.stage)
