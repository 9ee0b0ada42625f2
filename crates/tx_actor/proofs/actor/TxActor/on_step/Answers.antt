use Rattle.tx_actor.specs.declared.actor.Stage.{Stage}
use Rattle.std.proofs.Common.{sym, subst, ◌∙◌, refl, ◌≡◌, false}
use Rattle.tx_actor.specs.Running.{at, seat_at, stage_of}
use Rattle.tx_actor.specs.Dispatch.{Records, HasRoom}
use Rattle.actor_parts.specs.Dispatch.{notice_told, is_loading}
use Rattle.tx_actor.specs.declared.actor.Stage.TheVariants as stage
use Rattle.tx_actor.proofs.DispatchLemmas.{records_else, told_as, waits_unrecorded, word_at_stage, word_else, word_stays, word_waits}
use Rattle.tx_actor.proofs.ActorBoundsLemmas.{keeps_at, keeps_from, keeps_same}
use Rattle.tx_actor.proofs.CopiesByStageLemmas.{copies_at, copies_idle, copies_same}
use Rattle.tx_actor.proofs.actor.TxActor.on_step.Goals as goal

-- nothing was answered
pub returns-then-is_waiting-clause-does : goal.returns-then-is_waiting-clause-does
returns-then-is_waiting-clause-does g c =
    word_waits c.args.self.now _ _ (notice_told c.args.told)
    (sym c.of_told-heard.ensures ∙ c.is_waiting.ensures.told c.if-is_waiting.true) (c.is_waiting.ensures.stage c.if-is_waiting.true)
    refl refl

pub returns-then-is_waiting-clause-keeps : goal.returns-then-is_waiting-clause-keeps
returns-then-is_waiting-clause-keeps g c v = keeps_same v c.args.self.now _ refl

pub returns-then-is_waiting-clause-leaves : goal.returns-then-is_waiting-clause-leaves
returns-then-is_waiting-clause-leaves g c quiet = copies_same c.args.self.now _ quiet refl

pub returns-then-is_waiting-clause-made : goal.returns-then-is_waiting-clause-made
returns-then-is_waiting-clause-made g c h =
    absurd (waits_unrecorded c.args.self.now.stage (c.is_waiting.ensures.stage c.if-is_waiting.true) h)

pub on_read-requires : goal.on_read-requires
on_read-requires g c = subst (λ s. HasRoom c.args.self.now s) (sym c.replace-stage.ensures.value ∙ c.in-Reading.is) c.requires

pub returns-in-Beginning-clause-does : goal.returns-in-Beginning-clause-does
returns-in-Beginning-clause-does g c =
    word_at_stage c.args.self.now c.on_begun.new.self c.on_begun.result _ stage.Beginning (sym c.replace-stage.ensures.value ∙
    c.in-Beginning.is)
    (told_as (at c.args.self.now stage.Beginning) c.on_begun.new.self c.on_begun.result _ _ c.of_told-heard.ensures
    c.on_begun.ensures.does)

pub returns-in-Reading-clause-does : goal.returns-in-Reading-clause-does
returns-in-Reading-clause-does g c =
    word_at_stage c.args.self.now c.on_read.new.self c.on_read.result _ (stage.Reading c.in-Reading.location) (sym
    c.replace-stage.ensures.value ∙ c.in-Reading.is)
    (told_as (at c.args.self.now (stage.Reading c.in-Reading.location)) c.on_read.new.self c.on_read.result _ _
    c.of_told-heard.ensures c.on_read.ensures.does)

pub returns-in-Locking-clause-does : goal.returns-in-Locking-clause-does
returns-in-Locking-clause-does g c =
    word_at_stage c.args.self.now c.on_locked.new.self c.on_locked.result _ (stage.Locking c.in-Locking.homes) (sym
    c.replace-stage.ensures.value ∙ c.in-Locking.is)
    (told_as (at c.args.self.now (stage.Locking c.in-Locking.homes)) c.on_locked.new.self c.on_locked.result _ _
    c.of_told-heard.ensures c.on_locked.ensures.does)

pub returns-in-Ready-clause-does : goal.returns-in-Ready-clause-does
returns-in-Ready-clause-does g c =
    word_at_stage c.args.self.now c.on_first_stored.new.self c.on_first_stored.result _ (stage.Ready c.in-Ready.homes) (sym
    c.replace-stage.ensures.value ∙ c.in-Ready.is)
    (told_as (at c.args.self.now (stage.Ready c.in-Ready.homes)) c.on_first_stored.new.self c.on_first_stored.result _ _
    c.of_told-heard.ensures c.on_first_stored.ensures.does)

pub returns-in-Storing-clause-does : goal.returns-in-Storing-clause-does
returns-in-Storing-clause-does g c =
    word_at_stage c.args.self.now c.on_stored.new.self c.on_stored.result _ (stage.Storing c.in-Storing.homes) (sym
    c.replace-stage.ensures.value ∙ c.in-Storing.is)
    (told_as (at c.args.self.now (stage.Storing c.in-Storing.homes)) c.on_stored.new.self c.on_stored.result _ _
    c.of_told-heard.ensures c.on_stored.ensures.does)

pub returns-in-Releasing-clause-does : goal.returns-in-Releasing-clause-does
returns-in-Releasing-clause-does g c =
    word_at_stage c.args.self.now c.on_released.new.self c.on_released.result _ stage.Releasing (sym
    c.replace-stage.ensures.value ∙ c.in-Releasing.is)
    (told_as (at c.args.self.now stage.Releasing) c.on_released.new.self c.on_released.result _ _ c.of_told-heard.ensures
    c.on_released.ensures.does)

pub returns-in-Cancelling-clause-does : goal.returns-in-Cancelling-clause-does
returns-in-Cancelling-clause-does g c =
    word_at_stage c.args.self.now c.on_cancelled.new.self c.on_cancelled.result _ stage.Cancelling (sym
    c.replace-stage.ensures.value ∙ c.in-Cancelling.is)
    (told_as (at c.args.self.now stage.Cancelling) c.on_cancelled.new.self c.on_cancelled.result _ _ c.of_told-heard.ensures
    c.on_cancelled.ensures.does)

pub returns-in-Closing-clause-does : goal.returns-in-Closing-clause-does
returns-in-Closing-clause-does g c =
    word_at_stage c.args.self.now c.finish_reading.new.self c.finish_reading.result _ stage.Closing (sym c.replace-stage.ensures.value ∙
    c.in-Closing.is) (λ a w m s. c.finish_reading.ensures.does a w s.1)

pub returns-in-Leaving-clause-does : goal.returns-in-Leaving-clause-does
returns-in-Leaving-clause-does g c =
    word_at_stage c.args.self.now c.finish_abort.new.self c.finish_abort.result _ stage.Leaving (sym c.replace-stage.ensures.value ∙
    c.in-Leaving.is) (λ a w m s. c.finish_abort.ensures.does a w s.1)

pub returns-in_default-clause-does : goal.returns-in_default-clause-does
returns-in_default-clause-does g c =
    let other = c.replace-stage.result in
    let n = notice_told c.args.told in
    word_at_stage c.args.self.now c.unchanged.new.self c.unchanged.result n other (sym c.replace-stage.ensures.value)
    (word_stays (at c.args.self.now other) c.unchanged.new.self c.unchanged.result n c.unchanged.ensures.stage c.unchanged.ensures.told
    (λ a w. word_else w a (seat_at (w.seats a) (at c.args.self.now other)) other n c.in_default.not-Beginning c.in_default.not-Reading
    c.in_default.not-Locking c.in_default.not-Storing c.in_default.not-Releasing c.in_default.not-Closing
    c.in_default.not-Cancelling c.in_default.not-Leaving c.in_default.not-Ready))

pub returns-in-Beginning-clause-keeps : goal.returns-in-Beginning-clause-keeps
returns-in-Beginning-clause-keeps g c v =
    keeps_at v c.args.self.now c.on_begun.new.self stage.Beginning (sym c.replace-stage.ensures.value ∙ c.in-Beginning.is)
    (c.on_begun.ensures.keeps v)

pub returns-in-Reading-clause-keeps : goal.returns-in-Reading-clause-keeps
returns-in-Reading-clause-keeps g c v =
    keeps_at v c.args.self.now c.on_read.new.self (stage.Reading c.in-Reading.location) (sym c.replace-stage.ensures.value ∙
    c.in-Reading.is)
    (c.on_read.ensures.keeps v)

pub returns-in-Locking-clause-keeps : goal.returns-in-Locking-clause-keeps
returns-in-Locking-clause-keeps g c v =
    keeps_at v c.args.self.now c.on_locked.new.self (stage.Locking c.in-Locking.homes) (sym c.replace-stage.ensures.value ∙
    c.in-Locking.is)
    (c.on_locked.ensures.keeps v)

pub returns-in-Ready-clause-keeps : goal.returns-in-Ready-clause-keeps
returns-in-Ready-clause-keeps g c v =
    keeps_at v c.args.self.now c.on_first_stored.new.self (stage.Ready c.in-Ready.homes) (sym c.replace-stage.ensures.value ∙
    c.in-Ready.is)
    (c.on_first_stored.ensures.keeps v)

pub returns-in-Storing-clause-keeps : goal.returns-in-Storing-clause-keeps
returns-in-Storing-clause-keeps g c v =
    keeps_at v c.args.self.now c.on_stored.new.self (stage.Storing c.in-Storing.homes) (sym c.replace-stage.ensures.value ∙
    c.in-Storing.is)
    (c.on_stored.ensures.keeps v)

pub returns-in-Releasing-clause-keeps : goal.returns-in-Releasing-clause-keeps
returns-in-Releasing-clause-keeps g c v =
    keeps_at v c.args.self.now c.on_released.new.self stage.Releasing (sym c.replace-stage.ensures.value ∙ c.in-Releasing.is)
    (c.on_released.ensures.keeps v)

pub returns-in-Closing-clause-keeps : goal.returns-in-Closing-clause-keeps
returns-in-Closing-clause-keeps g c v =
    keeps_at v c.args.self.now c.finish_reading.new.self stage.Closing (sym c.replace-stage.ensures.value ∙ c.in-Closing.is)
    (keeps_from v c.args.self.now c.args.self.now c.finish_reading.new.self stage.Closing stage.Idle refl
    (c.finish_reading.ensures.keeps v) (λ n h. tt)
    (λ z. tt))

pub returns-in-Cancelling-clause-keeps : goal.returns-in-Cancelling-clause-keeps
returns-in-Cancelling-clause-keeps g c v =
    keeps_at v c.args.self.now c.on_cancelled.new.self stage.Cancelling (sym c.replace-stage.ensures.value ∙ c.in-Cancelling.is)
    (c.on_cancelled.ensures.keeps v)

pub returns-in-Leaving-clause-keeps : goal.returns-in-Leaving-clause-keeps
returns-in-Leaving-clause-keeps g c v =
    keeps_at v c.args.self.now c.finish_abort.new.self stage.Leaving (sym c.replace-stage.ensures.value ∙ c.in-Leaving.is)
    (keeps_from v c.args.self.now c.args.self.now c.finish_abort.new.self stage.Leaving stage.Idle refl (c.finish_abort.ensures.keeps v)
    (λ n h. tt) (λ
    z. tt))

pub returns-in_default-clause-keeps : goal.returns-in_default-clause-keeps
returns-in_default-clause-keeps g c v =
    keeps_at v c.args.self.now c.unchanged.new.self c.replace-stage.result (sym c.replace-stage.ensures.value)
    (keeps_same v (at c.args.self.now c.replace-stage.result) c.unchanged.new.self c.unchanged.ensures.stage)

-- the calls of a transaction that is recorded, or ends
pub returns-in-Beginning-clause-made : goal.returns-in-Beginning-clause-made
returns-in-Beginning-clause-made g c h =
    absurd (subst (λ (z : Stage g.row.V.Denot). Records z) (sym c.replace-stage.ensures.value ∙ c.in-Beginning.is) h)

pub returns-in-Reading-clause-made : goal.returns-in-Reading-clause-made
returns-in-Reading-clause-made g c h =
    absurd (subst (λ (z : Stage g.row.V.Denot). Records z) (sym c.replace-stage.ensures.value ∙ c.in-Reading.is) h)

pub returns-in-Locking-clause-made : goal.returns-in-Locking-clause-made
returns-in-Locking-clause-made g c h =
    absurd (subst (λ (z : Stage g.row.V.Denot). Records z) (sym c.replace-stage.ensures.value ∙ c.in-Locking.is) h)

pub returns-in-Storing-clause-made : goal.returns-in-Storing-clause-made
returns-in-Storing-clause-made g c h =
    absurd (subst (λ (z : Stage g.row.V.Denot). Records z) (sym c.replace-stage.ensures.value ∙ c.in-Storing.is) h)

pub returns-in-Releasing-clause-made : goal.returns-in-Releasing-clause-made
returns-in-Releasing-clause-made g c h =
    absurd (subst (λ (z : Stage g.row.V.Denot). Records z) (sym c.replace-stage.ensures.value ∙ c.in-Releasing.is) h)

pub returns-in-Cancelling-clause-made : goal.returns-in-Cancelling-clause-made
returns-in-Cancelling-clause-made g c h =
    absurd (subst (λ (z : Stage g.row.V.Denot). Records z) (sym c.replace-stage.ensures.value ∙ c.in-Cancelling.is) h)

pub returns-in-Ready-clause-made : goal.returns-in-Ready-clause-made
returns-in-Ready-clause-made g c h = c.on_first_stored.ensures.made

pub returns-in-Closing-clause-made : goal.returns-in-Closing-clause-made
returns-in-Closing-clause-made g c h = c.finish_reading.ensures.made

pub returns-in-Leaving-clause-made : goal.returns-in-Leaving-clause-made
returns-in-Leaving-clause-made g c h = c.finish_abort.ensures.made

pub returns-in_default-clause-made : goal.returns-in_default-clause-made
returns-in_default-clause-made g c h =
    absurd (records_else c.replace-stage.result c.in_default.not-Ready c.in_default.not-Closing c.in_default.not-Leaving
    (subst (λ (z : Stage g.row.V.Denot). Records z) (sym c.replace-stage.ensures.value) h))

-- the copies
pub returns-in-Beginning-clause-leaves : goal.returns-in-Beginning-clause-leaves
returns-in-Beginning-clause-leaves g c quiet =
    copies_at c.args.self.now c.on_begun.new.self stage.Beginning (sym c.replace-stage.ensures.value ∙ c.in-Beginning.is)
    c.on_begun.ensures.leaves

pub returns-in-Reading-clause-leaves : goal.returns-in-Reading-clause-leaves
returns-in-Reading-clause-leaves g c quiet =
    copies_at c.args.self.now c.on_read.new.self (stage.Reading c.in-Reading.location) (sym c.replace-stage.ensures.value
    ∙ c.in-Reading.is)
    c.on_read.ensures.leaves

pub returns-in-Locking-clause-leaves : goal.returns-in-Locking-clause-leaves
returns-in-Locking-clause-leaves g c quiet =
    copies_at c.args.self.now c.on_locked.new.self (stage.Locking c.in-Locking.homes) (sym c.replace-stage.ensures.value ∙ c.in-Locking.is)
    c.on_locked.ensures.leaves

pub returns-in-Ready-clause-leaves : goal.returns-in-Ready-clause-leaves
returns-in-Ready-clause-leaves g c quiet =
    copies_at c.args.self.now c.on_first_stored.new.self (stage.Ready c.in-Ready.homes) (sym c.replace-stage.ensures.value ∙ c.in-Ready.is)
    c.on_first_stored.ensures.leaves

pub returns-in-Storing-clause-leaves : goal.returns-in-Storing-clause-leaves
returns-in-Storing-clause-leaves g c quiet =
    copies_at c.args.self.now c.on_stored.new.self (stage.Storing c.in-Storing.homes) (sym c.replace-stage.ensures.value ∙ c.in-Storing.is)
    c.on_stored.ensures.leaves

pub returns-in-Releasing-clause-leaves : goal.returns-in-Releasing-clause-leaves
returns-in-Releasing-clause-leaves g c quiet =
    copies_at c.args.self.now c.on_released.new.self stage.Releasing (sym c.replace-stage.ensures.value ∙ c.in-Releasing.is)
    c.on_released.ensures.leaves

pub returns-in-Closing-clause-leaves : goal.returns-in-Closing-clause-leaves
returns-in-Closing-clause-leaves g c quiet =
    copies_at c.args.self.now c.finish_reading.new.self stage.Closing (sym c.replace-stage.ensures.value ∙ c.in-Closing.is)
    (copies_idle (at c.args.self.now stage.Closing) c.args.self.now c.finish_reading.new.self c.finish_reading.ensures.leaves)

pub returns-in-Cancelling-clause-leaves : goal.returns-in-Cancelling-clause-leaves
returns-in-Cancelling-clause-leaves g c quiet =
    copies_at c.args.self.now c.on_cancelled.new.self stage.Cancelling (sym c.replace-stage.ensures.value ∙ c.in-Cancelling.is)
    c.on_cancelled.ensures.leaves

pub returns-in-Leaving-clause-leaves : goal.returns-in-Leaving-clause-leaves
returns-in-Leaving-clause-leaves g c quiet =
    copies_at c.args.self.now c.finish_abort.new.self stage.Leaving (sym c.replace-stage.ensures.value ∙ c.in-Leaving.is)
    (copies_idle (at c.args.self.now stage.Leaving) c.args.self.now c.finish_abort.new.self c.finish_abort.ensures.leaves)

pub returns-in_default-clause-leaves : goal.returns-in_default-clause-leaves
returns-in_default-clause-leaves g c quiet =
    copies_at c.args.self.now c.unchanged.new.self c.replace-stage.result (sym c.replace-stage.ensures.value)
    (copies_same (at c.args.self.now c.replace-stage.result) c.unchanged.new.self
    (subst (λ (z : Stage g.row.V.Denot). is_loading (stage_of z) ≡ false) (sym c.replace-stage.ensures.value) quiet)
    c.unchanged.ensures.stage)
