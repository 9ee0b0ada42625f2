use Rattle.std.proofs.Common.{refl, sym, ◌∙◌}
use Rattle.tx_actor.specs.declared.actor.TxActor.{TxActor}
use Rattle.tx_actor.specs.declared.actor.Stage.TheVariants as stage
use Rattle.tx_actor.proofs.ActorBoundsLemmas.{keeps_plain, keeps_to}
use Rattle.tx_actor.proofs.RunsLemmas.{rests_home, takes_home}
use Rattle.tx_actor.proofs.actor.TxActor.return_bases.Goals as goal

pub returns-then-has_none-clause-does : goal.returns-then-has_none-clause-does
returns-then-has_none-clause-does g c a w x of may s =
    let u : TxActor g.row.V.Denot = record c.args.self.now { words = c.release.new.words; stage = stage.Releasing } in
    rests_home a x u _ _ w c.args.homes.items tt (sym c.has_none.ensures ∙ c.if-has_none.true) may of refl (λ t. refl)
    c.release.ensures.actor s

pub returns-clause-does : goal.returns-clause-does
returns-clause-does g c a w x of may s =
    let u : TxActor g.row.V.Denot = record c.args.self.now { stage = stage.Homing c.args.homes } in
    takes_home a x u _ w c.args.homes.items tt (sym c.has_none.ensures ∙ c.if-has_none.false) of refl (λ t. refl) s

pub returns-then-has_none-clause-keeps : goal.returns-then-has_none-clause-keeps
returns-then-has_none-clause-keeps g c v =
    keeps_to v c.args.self.now _ (stage.Homing c.args.homes) stage.Releasing c.release.ensures.keeps.fits c.release.ensures.keeps.owed
    refl (λ n h. tt) (λ z. tt)

pub returns-clause-keeps : goal.returns-clause-keeps
returns-clause-keeps g c v =
    keeps_plain v c.args.self.now _ (stage.Homing c.args.homes) (stage.Homing c.args.homes) refl refl (λ n h. h) (λ z. tt)

pub returns-then-has_none-clause-leaves : goal.returns-then-has_none-clause-leaves
returns-then-has_none-clause-leaves g c =
    tt

pub returns-clause-leaves : goal.returns-clause-leaves
returns-clause-leaves g c =
    (λ k h. h, refl)
