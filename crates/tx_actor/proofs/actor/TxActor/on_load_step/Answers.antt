use Rattle.std.proofs.Common.{refl, sym, ◌∙◌}
use Rattle.tx_actor.specs.Running.{at}
use Rattle.tx_actor.specs.declared.actor.Stage.TheVariants as stage
use Rattle.tx_actor.proofs.LoadLemmas.{load_at_stage, load_heard, load_quiet, loadable_as}
use Rattle.actor_parts.specs.Dispatch.{notice_told, shown_notice}
use Rattle.tx_actor.proofs.LoadBoundsLemmas.{heard_apart, heard_at, heard_quiet}
use Rattle.tx_actor.proofs.CallStageLemmas.{apart_loaded, loaded_at, loaded_quiet}
use Rattle.tx_actor.proofs.actor.TxActor.on_load_step.Goals as goal

-- nothing was answered
pub returns-then-is_quiet-clause-does : goal.returns-then-is_quiet-clause-does
returns-then-is_quiet-clause-does g c =
    load_quiet c.args.self.now _ _ (notice_told c.args.told) (sym c.of_told-heard.ensures ∙ c.is_quiet.ensures c.if-is_quiet.true) refl refl

pub returns-then-is_quiet-clause-keeps : goal.returns-then-is_quiet-clause-keeps
returns-then-is_quiet-clause-keeps g c v =
    heard_quiet v c.args.self.now _ (notice_told c.args.told) (sym c.of_told-heard.ensures ∙ c.is_quiet.ensures c.if-is_quiet.true) refl

pub returns-then-is_quiet-clause-goes : goal.returns-then-is_quiet-clause-goes
returns-then-is_quiet-clause-goes g c =
    loaded_quiet c.args.self.now _ _ (notice_told c.args.told) (sym c.of_told-heard.ensures ∙ c.is_quiet.ensures c.if-is_quiet.true)
    (refl, refl)

pub on_loaded-requires : goal.on_loaded-requires
on_loaded-requires g c =
    record {
      prepared = loadable_as c.args.self.now c.replace-stage.new.dest (stage.Loading c.in-Loading.call c.in-Loading.left)
          (notice_told c.args.told) (shown_notice c.of_told-heard.result) (sym c.replace-stage.ensures.value ∙ c.in-Loading.is)
          (sym c.of_told-heard.ensures) c.requires.prepared;
    }

pub returns-in-Loading-clause-does : goal.returns-in-Loading-clause-does
returns-in-Loading-clause-does g c =
    let now = stage.Loading c.in-Loading.call c.in-Loading.left in
    load_at_stage c.args.self.now c.on_loaded.new.self c.on_loaded.result _ now (sym c.replace-stage.ensures.value ∙ c.in-Loading.is)
    (load_heard (at c.args.self.now now) c.on_loaded.new.self c.on_loaded.result _ _ c.of_told-heard.ensures c.on_loaded.ensures.does)

pub returns-in-Loading-clause-keeps : goal.returns-in-Loading-clause-keeps
returns-in-Loading-clause-keeps g c v =
    let now = stage.Loading c.in-Loading.call c.in-Loading.left in
    heard_at v c.args.self.now c.on_loaded.new.self now _ _ (sym c.replace-stage.ensures.value ∙ c.in-Loading.is)
    c.of_told-heard.ensures (c.on_loaded.ensures.keeps v)

pub returns-in_default-clause-keeps : goal.returns-in_default-clause-keeps
returns-in_default-clause-keeps g c v =
    let other = c.replace-stage.result in
    let n = notice_told c.args.told in
    heard_at v c.args.self.now c.unchanged.new.self other n n (sym c.replace-stage.ensures.value) refl
    (heard_apart v (at c.args.self.now other) c.unchanged.new.self n c.unchanged.ensures.stage c.in_default.not-Loading)

pub returns-in-Loading-clause-goes : goal.returns-in-Loading-clause-goes
returns-in-Loading-clause-goes g c =
    let now = stage.Loading c.in-Loading.call c.in-Loading.left in
    loaded_at c.args.self.now c.on_loaded.new.self c.on_loaded.result now _ _ (sym c.replace-stage.ensures.value ∙ c.in-Loading.is)
    c.of_told-heard.ensures c.on_loaded.ensures.goes

pub returns-in_default-clause-goes : goal.returns-in_default-clause-goes
returns-in_default-clause-goes g c =
    let other = c.replace-stage.result in
    let n = notice_told c.args.told in
    loaded_at c.args.self.now c.unchanged.new.self c.unchanged.result other n n (sym c.replace-stage.ensures.value) refl
    (apart_loaded (at c.args.self.now other) c.unchanged.new.self c.unchanged.result other n c.in_default.not-Loading
    (c.unchanged.ensures.stage, c.unchanged.ensures.told))
