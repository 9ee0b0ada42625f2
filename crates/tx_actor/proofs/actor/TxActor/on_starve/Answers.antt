use Rattle.std.proofs.Common.{◌≡◌, [], ◌∷◌, refl, sym, subst, ◌∙◌}
use Rattle.seq_model.specs.declared.refusal.Refusal.TheVariants as refusal
use Rattle.tx_actor.specs.ActorBounds.{KeepsIn}
use Rattle.tx_actor.specs.Running.{Runs, at, notice_of, seat_of}
use Rattle.replay_log.specs.Worlds.{because, gives_up, starve_at}
use Rattle.tx_actor.specs.declared.actor.CollectionCall.{CollectionCall}
use Rattle.tx_actor.specs.declared.actor.Stage.TheVariants as stage
use Rattle.tx_actor.specs.declared.actor.ActorNotice.TheVariants.{Refused}
use Rattle.tx_actor.proofs.DispatchLemmas.{does_at_stage, does_stays, starve_else}
use Rattle.tx_actor.proofs.ActorBoundsLemmas.{keeps_at, keeps_from, keeps_same}
use Rattle.tx_actor.proofs.CopiesByStageLemmas.{copies_at, copies_idle, copies_same, quiet_by}
use Rattle.tx_actor.proofs.actor.TxActor.on_starve.Goals as goal

pub returns-in-Idle-clause-does : goal.returns-in-Idle-clause-does
returns-in-Idle-clause-does g c =
    does_at_stage starve_at c.args.self.now (at c.args.self.now stage.Idle) (Refused refusal.NoTransaction) stage.Idle (sym
    c.replace-stage.ensures.value ∙ c.in-Idle.is) (λ a w s. (s, refl))

pub returns-in-Open-clause-does : goal.returns-in-Open-clause-does
returns-in-Open-clause-does g c =
    does_at_stage starve_at c.args.self.now (at c.args.self.now stage.Open) (Refused refusal.NoTransaction) stage.Open (sym
    c.replace-stage.ensures.value ∙ c.in-Open.is) (λ a w s. (s, refl))

pub returns-in-Beginning-clause-does : goal.returns-in-Beginning-clause-does
returns-in-Beginning-clause-does g c =
    does_at_stage starve_at c.args.self.now c.starve_begin.new.self c.starve_begin.result stage.Beginning (sym
    c.replace-stage.ensures.value ∙ c.in-Beginning.is) (λ a w s. c.starve_begin.ensures.does a w s.1)

pub returns-in-Reading-clause-does : goal.returns-in-Reading-clause-does
returns-in-Reading-clause-does g c =
    does_at_stage starve_at c.args.self.now c.abort_for.new.self c.abort_for.result (stage.Reading c.in-Reading.field-0) (sym
    c.replace-stage.ensures.value ∙ c.in-Reading.is) (λ a w s. c.abort_for.ensures.does a w s.1)

pub returns-in-Trying-clause-does : goal.returns-in-Trying-clause-does
returns-in-Trying-clause-does g c =
    does_at_stage starve_at c.args.self.now c.abort_for-in-Trying.new.self c.abort_for-in-Trying.result (stage.Trying
    c.in-Trying.field-0 c.in-Trying.field-1) (sym c.replace-stage.ensures.value ∙ c.in-Trying.is) (λ a w s.
    c.abort_for-in-Trying.ensures.does a w s.1)

pub returns-in-Copying-clause-does : goal.returns-in-Copying-clause-does
returns-in-Copying-clause-does g c =
    does_at_stage starve_at c.args.self.now c.starves_copying.new.self c.starves_copying.result (stage.Copying c.in-Copying.asked)
    (sym c.replace-stage.ensures.value ∙ c.in-Copying.is)
    (λ a w s. subst
    (λ (k : CollectionCall g.row.V.Denot). let f = gives_up w a (because (seat_of c.args.self.now) refusal.Memory) (k.collection ∷ []) in
    Runs a c.starves_copying.new.self f.0 × (notice_of a c.starves_copying.result ≡ f.1)) c.get.ensures
    (c.starves_copying.ensures.does a w s.1))

pub returns-in-Loading-clause-does : goal.returns-in-Loading-clause-does
returns-in-Loading-clause-does g c =
    does_at_stage starve_at c.args.self.now c.abort_for-in-Loading.new.self c.abort_for-in-Loading.result (stage.Loading
    c.in-Loading.field-0 c.in-Loading.field-1) (sym c.replace-stage.ensures.value ∙ c.in-Loading.is) (λ a w s.
    c.abort_for-in-Loading.ensures.does a w s.1)

pub returns-in-Locking-clause-does : goal.returns-in-Locking-clause-does
returns-in-Locking-clause-does g c =
    does_at_stage starve_at c.args.self.now c.abort_for-in-Locking.new.self c.abort_for-in-Locking.result (stage.Locking
    c.in-Locking.field-0) (sym c.replace-stage.ensures.value ∙ c.in-Locking.is) (λ a w s. c.abort_for-in-Locking.ensures.does a w s.1)

pub returns-in-Gating-clause-does : goal.returns-in-Gating-clause-does
returns-in-Gating-clause-does g c =
    does_at_stage starve_at c.args.self.now c.starves_gating.new.self c.starves_gating.result (stage.Gating c.in-Gating.homes
    c.in-Gating.got c.in-Gating.field-2) (sym c.replace-stage.ensures.value ∙ c.in-Gating.is) (c.starves_gating.ensures.does
    c.in-Gating.field-2)

pub returns-in-Ready-clause-does : goal.returns-in-Ready-clause-does
returns-in-Ready-clause-does g c =
    does_at_stage starve_at c.args.self.now c.starves_ready.new.self c.starves_ready.result (stage.Ready c.in-Ready.homes) (sym
    c.replace-stage.ensures.value ∙ c.in-Ready.is) c.starves_ready.ensures.does

pub returns-in-Closing-clause-does : goal.returns-in-Closing-clause-does
returns-in-Closing-clause-does g c =
    does_at_stage starve_at c.args.self.now c.abort_for-in-Closing.new.self c.abort_for-in-Closing.result stage.Closing (sym
    c.replace-stage.ensures.value ∙ c.in-Closing.is) (λ a w s. c.abort_for-in-Closing.ensures.does a w s.1)

pub returns-in_default-clause-does : goal.returns-in_default-clause-does
returns-in_default-clause-does g c =
    let other = c.replace-stage.result in
    does_at_stage starve_at c.args.self.now c.unchanged.new.self c.unchanged.result other (sym c.replace-stage.ensures.value)
    (does_stays starve_at (at c.args.self.now other) c.unchanged.new.self c.unchanged.result c.unchanged.ensures.stage
    c.unchanged.ensures.told
    (λ a w. starve_else w a (seat_of (at c.args.self.now other)) other c.in_default.not-Idle c.in_default.not-Open
    c.in_default.not-Beginning c.in_default.not-Reading c.in_default.not-Trying c.in_default.not-Copying c.in_default.not-Loading
    c.in_default.not-Locking c.in_default.not-Gating c.in_default.not-Ready c.in_default.not-Closing))

pub returns-in-Idle-clause-keeps : goal.returns-in-Idle-clause-keeps
returns-in-Idle-clause-keeps g c v =
    keeps_at v c.args.self.now (at c.args.self.now stage.Idle) stage.Idle (sym c.replace-stage.ensures.value ∙ c.in-Idle.is)
    (keeps_same v (at c.args.self.now stage.Idle) (at c.args.self.now stage.Idle) refl)

pub returns-in-Open-clause-keeps : goal.returns-in-Open-clause-keeps
returns-in-Open-clause-keeps g c v =
    keeps_at v c.args.self.now (at c.args.self.now stage.Open) stage.Open (sym c.replace-stage.ensures.value ∙ c.in-Open.is)
    (keeps_same v (at c.args.self.now stage.Open) (at c.args.self.now stage.Open) refl)

pub returns-in-Reading-clause-keeps : goal.returns-in-Reading-clause-keeps
returns-in-Reading-clause-keeps g c v =
    keeps_at v c.args.self.now c.abort_for.new.self (stage.Reading c.in-Reading.field-0) (sym c.replace-stage.ensures.value ∙
    c.in-Reading.is)
    (keeps_from v c.args.self.now c.args.self.now c.abort_for.new.self (stage.Reading c.in-Reading.field-0) stage.Idle refl
    (c.abort_for.ensures.keeps v) (λ n h. tt) (λ z. tt))

pub returns-in-Trying-clause-keeps : goal.returns-in-Trying-clause-keeps
returns-in-Trying-clause-keeps g c v =
    keeps_at v c.args.self.now c.abort_for-in-Trying.new.self (stage.Trying c.in-Trying.field-0 c.in-Trying.field-1) (sym
    c.replace-stage.ensures.value ∙ c.in-Trying.is)
    (keeps_from v c.args.self.now c.args.self.now c.abort_for-in-Trying.new.self (stage.Trying c.in-Trying.field-0 c.in-Trying.field-1)
    stage.Idle refl (c.abort_for-in-Trying.ensures.keeps v) (λ n h. tt) (λ z. tt))

pub returns-in-Loading-clause-keeps : goal.returns-in-Loading-clause-keeps
returns-in-Loading-clause-keeps g c v =
    keeps_at v c.args.self.now c.abort_for-in-Loading.new.self (stage.Loading c.in-Loading.field-0 c.in-Loading.field-1) (sym
    c.replace-stage.ensures.value ∙ c.in-Loading.is)
    (keeps_from v c.args.self.now c.args.self.now c.abort_for-in-Loading.new.self (stage.Loading c.in-Loading.field-0
    c.in-Loading.field-1) stage.Idle refl (c.abort_for-in-Loading.ensures.keeps v) (λ n h. tt) (λ z. tt))

pub returns-in-Locking-clause-keeps : goal.returns-in-Locking-clause-keeps
returns-in-Locking-clause-keeps g c v =
    keeps_at v c.args.self.now c.abort_for-in-Locking.new.self (stage.Locking c.in-Locking.field-0) (sym c.replace-stage.ensures.value ∙
    c.in-Locking.is)
    (keeps_from v c.args.self.now c.args.self.now c.abort_for-in-Locking.new.self (stage.Locking c.in-Locking.field-0) stage.Idle refl
    (c.abort_for-in-Locking.ensures.keeps v) (λ n h. tt) (λ z. tt))

pub returns-in-Closing-clause-keeps : goal.returns-in-Closing-clause-keeps
returns-in-Closing-clause-keeps g c v =
    keeps_at v c.args.self.now c.abort_for-in-Closing.new.self stage.Closing (sym c.replace-stage.ensures.value ∙ c.in-Closing.is)
    (keeps_from v c.args.self.now c.args.self.now c.abort_for-in-Closing.new.self stage.Closing stage.Idle refl
    (c.abort_for-in-Closing.ensures.keeps v) (λ n h. tt) (λ z. tt))

pub returns-in-Beginning-clause-keeps : goal.returns-in-Beginning-clause-keeps
returns-in-Beginning-clause-keeps g c v =
    keeps_at v c.args.self.now c.starve_begin.new.self stage.Beginning (sym c.replace-stage.ensures.value ∙ c.in-Beginning.is)
    (keeps_from v c.args.self.now c.args.self.now c.starve_begin.new.self stage.Beginning stage.Idle refl (c.starve_begin.ensures.keeps
    v) (λ n h. tt) (λ z. tt))

pub returns-in-Copying-clause-keeps : goal.returns-in-Copying-clause-keeps
returns-in-Copying-clause-keeps g c v =
    keeps_at v c.args.self.now c.starves_copying.new.self (stage.Copying c.in-Copying.asked) (sym c.replace-stage.ensures.value ∙
    c.in-Copying.is)
    (keeps_from v c.args.self.now c.args.self.now c.starves_copying.new.self (stage.Copying c.in-Copying.asked) (stage.ReturningOne
    c.in-Copying.asked.collection) refl
    (subst (λ (k : CollectionCall g.row.V.Denot). KeepsIn v (at c.args.self.now (stage.ReturningOne k.collection))
    c.starves_copying.new.self)
    c.get.ensures (c.starves_copying.ensures.keeps v)) (λ n h. h) (λ z. tt))

pub returns-in-Gating-clause-keeps : goal.returns-in-Gating-clause-keeps
returns-in-Gating-clause-keeps g c v =
    keeps_at v c.args.self.now c.starves_gating.new.self (stage.Gating c.in-Gating.homes c.in-Gating.got c.in-Gating.field-2) (sym
    c.replace-stage.ensures.value ∙ c.in-Gating.is)
    (keeps_from v c.args.self.now c.args.self.now c.starves_gating.new.self (stage.Gating c.in-Gating.homes c.in-Gating.got
    c.in-Gating.field-2) (stage.Gating c.in-Gating.homes c.in-Gating.got 0) refl (c.starves_gating.ensures.keeps v) (λ n h. h) (λ z. tt))

pub returns-in-Ready-clause-keeps : goal.returns-in-Ready-clause-keeps
returns-in-Ready-clause-keeps g c v =
    keeps_at v c.args.self.now c.starves_ready.new.self (stage.Ready c.in-Ready.homes) (sym c.replace-stage.ensures.value ∙ c.in-Ready.is)
    (c.starves_ready.ensures.keeps v)

pub returns-in_default-clause-keeps : goal.returns-in_default-clause-keeps
returns-in_default-clause-keeps g c v =
    keeps_at v c.args.self.now c.unchanged.new.self c.replace-stage.result (sym c.replace-stage.ensures.value)
    (keeps_same v (at c.args.self.now c.replace-stage.result) c.unchanged.new.self c.unchanged.ensures.stage)

-- the copies
pub returns-in-Idle-clause-leaves : goal.returns-in-Idle-clause-leaves
returns-in-Idle-clause-leaves g c =
    copies_at c.args.self.now (at c.args.self.now stage.Idle) stage.Idle (sym c.replace-stage.ensures.value ∙ c.in-Idle.is)
    (copies_same (at c.args.self.now stage.Idle) (at c.args.self.now stage.Idle) refl refl)

pub returns-in-Open-clause-leaves : goal.returns-in-Open-clause-leaves
returns-in-Open-clause-leaves g c =
    copies_at c.args.self.now (at c.args.self.now stage.Open) stage.Open (sym c.replace-stage.ensures.value ∙ c.in-Open.is)
    (copies_same (at c.args.self.now stage.Open) (at c.args.self.now stage.Open) refl refl)

pub returns-in-Beginning-clause-leaves : goal.returns-in-Beginning-clause-leaves
returns-in-Beginning-clause-leaves g c =
    copies_at c.args.self.now c.starve_begin.new.self stage.Beginning (sym c.replace-stage.ensures.value ∙ c.in-Beginning.is)
    (copies_idle (at c.args.self.now stage.Beginning) c.args.self.now c.starve_begin.new.self c.starve_begin.ensures.leaves)

pub returns-in-Reading-clause-leaves : goal.returns-in-Reading-clause-leaves
returns-in-Reading-clause-leaves g c =
    copies_at c.args.self.now c.abort_for.new.self (stage.Reading c.in-Reading.field-0) (sym c.replace-stage.ensures.value
    ∙ c.in-Reading.is)
    (copies_idle (at c.args.self.now (stage.Reading c.in-Reading.field-0)) c.args.self.now c.abort_for.new.self c.abort_for.ensures.leaves)

pub returns-in-Trying-clause-leaves : goal.returns-in-Trying-clause-leaves
returns-in-Trying-clause-leaves g c =
    copies_at c.args.self.now c.abort_for-in-Trying.new.self (stage.Trying c.in-Trying.field-0 c.in-Trying.field-1)
    (sym c.replace-stage.ensures.value ∙ c.in-Trying.is)
    (copies_idle (at c.args.self.now (stage.Trying c.in-Trying.field-0 c.in-Trying.field-1)) c.args.self.now
    c.abort_for-in-Trying.new.self c.abort_for-in-Trying.ensures.leaves)

pub returns-in-Copying-clause-leaves : goal.returns-in-Copying-clause-leaves
returns-in-Copying-clause-leaves g c =
    copies_at c.args.self.now c.starves_copying.new.self (stage.Copying c.in-Copying.asked) (sym c.replace-stage.ensures.value
    ∙ c.in-Copying.is)
    (copies_idle (at c.args.self.now
    (stage.Copying c.in-Copying.asked)) c.args.self.now c.starves_copying.new.self c.starves_copying.ensures.leaves)

pub returns-in-Loading-clause-leaves : goal.returns-in-Loading-clause-leaves
returns-in-Loading-clause-leaves g c =
    copies_at c.args.self.now c.abort_for-in-Loading.new.self (stage.Loading c.in-Loading.field-0 c.in-Loading.field-1)
    (sym c.replace-stage.ensures.value ∙ c.in-Loading.is)
    (copies_idle (at c.args.self.now (stage.Loading c.in-Loading.field-0 c.in-Loading.field-1)) c.args.self.now
    c.abort_for-in-Loading.new.self c.abort_for-in-Loading.ensures.leaves)

pub returns-in-Locking-clause-leaves : goal.returns-in-Locking-clause-leaves
returns-in-Locking-clause-leaves g c =
    copies_at c.args.self.now c.abort_for-in-Locking.new.self (stage.Locking c.in-Locking.field-0) (sym c.replace-stage.ensures.value
    ∙ c.in-Locking.is)
    (copies_idle (at c.args.self.now
    (stage.Locking c.in-Locking.field-0)) c.args.self.now c.abort_for-in-Locking.new.self c.abort_for-in-Locking.ensures.leaves)

pub returns-in-Gating-clause-leaves : goal.returns-in-Gating-clause-leaves
returns-in-Gating-clause-leaves g c =
    copies_at c.args.self.now c.starves_gating.new.self (stage.Gating c.in-Gating.homes c.in-Gating.got c.in-Gating.field-2)
    (sym c.replace-stage.ensures.value ∙ c.in-Gating.is)
    (copies_idle (at c.args.self.now (stage.Gating c.in-Gating.homes c.in-Gating.got c.in-Gating.field-2)) c.args.self.now
    c.starves_gating.new.self c.starves_gating.ensures.leaves)

pub returns-in-Ready-clause-leaves : goal.returns-in-Ready-clause-leaves
returns-in-Ready-clause-leaves g c =
    copies_at c.args.self.now c.starves_ready.new.self (stage.Ready c.in-Ready.homes) (sym c.replace-stage.ensures.value ∙ c.in-Ready.is)
    (copies_idle (at c.args.self.now
    (stage.Ready c.in-Ready.homes)) c.args.self.now c.starves_ready.new.self c.starves_ready.ensures.leaves)

pub returns-in-Closing-clause-leaves : goal.returns-in-Closing-clause-leaves
returns-in-Closing-clause-leaves g c =
    copies_at c.args.self.now c.abort_for-in-Closing.new.self stage.Closing (sym c.replace-stage.ensures.value ∙ c.in-Closing.is)
    (copies_idle (at c.args.self.now stage.Closing) c.args.self.now c.abort_for-in-Closing.new.self c.abort_for-in-Closing.ensures.leaves)

pub returns-in_default-clause-leaves : goal.returns-in_default-clause-leaves
returns-in_default-clause-leaves g c =
    copies_at c.args.self.now c.unchanged.new.self c.replace-stage.result (sym c.replace-stage.ensures.value)
    (copies_same (at c.args.self.now c.replace-stage.result) c.unchanged.new.self
    (quiet_by c.replace-stage.result c.in_default.not-Loading) c.unchanged.ensures.stage)
