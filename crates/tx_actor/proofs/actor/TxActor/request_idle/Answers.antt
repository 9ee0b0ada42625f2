use Rattle.std.proofs.Common.{◌≡◌, ◌⊎◌, inl, inr, refl, subst, sym}
use Rattle.tx_actor.specs.ActorBounds.{KeepsIn}
use Rattle.tx_actor.specs.declared.actor.Stage.TheVariants.{Beginning}
use Rattle.tx_actor.specs.declared.actor.TxActor.{TxActor}
use Rattle.tx_actor.proofs.ActorBoundsLemmas.{keeps_same}
use Rattle.tx_actor.proofs.actor.TxActor.request_idle.Goals as goal
use Rattle.tx_actor.proofs.actor.TxActor.request_idle.Goals.{in-Begin, in-BeginRead, in_default}

pub returns-clause-keeps : goal.returns-clause-keeps
returns-clause-keeps g c = λ v. elim c.match-request.branch [
  | in-Begin w ↦ subst (λ x. KeepsIn v c.args.self.now x) (sym w.self-is) (w.start.ensures.keeps v)
  | in-BeginRead w ↦ subst (λ x. KeepsIn v c.args.self.now x) (sym w.self-is) (w.start_reader.ensures.keeps v)
  | in_default w ↦ subst (λ x. KeepsIn v c.args.self.now x) (sym w.self-is) (keeps_same v c.args.self.now c.args.self.now refl)
]

pub returns-clause-apart : goal.returns-clause-apart
returns-clause-apart g c = elim c.match-request.branch [
  | in-Begin w ↦ subst (λ (x : TxActor g.row.V.Denot). (x.stage ≡ Beginning) ⊎ (x ≡ c.args.self.now)) (sym w.self-is)
      (inl w.start.ensures.stage)
  | in-BeginRead w ↦ subst (λ (x : TxActor g.row.V.Denot). (x.stage ≡ Beginning) ⊎ (x ≡ c.args.self.now)) (sym w.self-is)
      (inl w.start_reader.ensures.stage)
  | in_default w ↦ inr w.self-is
]
