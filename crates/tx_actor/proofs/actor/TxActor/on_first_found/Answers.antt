use Rattle.std.proofs.Common.{drop, refl}
use Rattle.tx_actor.proofs.LoadLemmas.{first_rest, goes_as, stale_as}
use Rattle.tx_machine.specs.Notices as notice
use Rattle.tx_actor.specs.declared.actor.Stage.TheVariants as stage
use Rattle.tx_actor.proofs.LoadBoundsLemmas.{heard_ends, heard_goes}
use Rattle.std.proofs.Common.{inl, inr, subst, sym}
use Rattle.tx_sets.specs.Entries.{Entries}
use Rattle.actor_parts.specs.Judged.{judged}
use Rattle.tx_actor.specs.CopiesByStage.{HasFound}
use Rattle.tx_actor.specs.Running.{at}
use Rattle.tx_actor.proofs.CallStageLemmas.{gone_at}
use Rattle.tx_actor.proofs.CopiesByStageLemmas.{asks_nothing}
use Rattle.tx_actor.proofs.actor.TxActor.on_first_found.Goals as goal

pub returns-then-copied-edition-clause-does : goal.returns-then-copied-edition-clause-does
returns-then-copied-edition-clause-does g c =
    let left = c.args.left in
    let es = drop 1 left.items in
    stale_as c.args.self.now c.abort_for.new.self c.abort_for.result c.args.call left c.args.first es c.args.edition
    (first_rest left.items c.args.first es c.requires.first refl) c.if-copied-edition.true c.abort_for.ensures.does

pub returns-clause-does : goal.returns-clause-does
returns-clause-does g c =
    let left = c.args.left in
    goes_as c.args.self.now c.continue_call.new.self c.continue_call.result c.args.call left c.args.first _ c.args.edition
    (first_rest left.items c.args.first _ c.requires.first c.pop_front.ensures.rest) c.if-copied-edition.false c.continue_call.ensures.does

-- the bounds and the room
pub returns-then-copied-edition-clause-keeps : goal.returns-then-copied-edition-clause-keeps
returns-then-copied-edition-clause-keeps g c v =
    heard_ends v c.args.self.now c.abort_for.new.self (stage.Loading c.args.call c.args.left) (notice.Number c.args.edition)
    (c.abort_for.ensures.keeps v)

pub returns-clause-keeps : goal.returns-clause-keeps
returns-clause-keeps g c v =
    let left = c.args.left in
    heard_goes v c.args.self.now c.continue_call.new.self c.args.call left c.args.first c.pop_front.new.self.items c.args.edition
    (first_rest left.items c.args.first _ c.requires.first c.pop_front.ensures.rest) (c.continue_call.ensures.keeps v)
    (c.continue_call.ensures.owed)

-- what is left of the copies
pub returns-then-copied-edition-clause-goes : goal.returns-then-copied-edition-clause-goes
returns-then-copied-edition-clause-goes g c =
    let left = c.args.left in
    let r = at c.args.self.now (stage.Loading c.args.call left) in
    subst (λ (fs : Entries). HasFound r c.abort_for.new.self c.abort_for.result c.args.call fs c.args.edition)
    (sym (first_rest left.items c.args.first (drop 1 left.items) c.requires.first refl))
    (inr (c.if-copied-edition.true, asks_nothing c.args.self.now c.abort_for.new.self c.abort_for.ensures.leaves))

pub returns-clause-goes : goal.returns-clause-goes
returns-clause-goes g c =
    let left = c.args.left in
    let s = stage.Loading c.args.call left in
    let es = c.pop_front.new.self.items in
    let old = c.args.self.now in
    subst (λ (fs : Entries). HasFound (at old s) c.continue_call.new.self c.continue_call.result c.args.call fs c.args.edition)
    (sym (first_rest left.items c.args.first es c.requires.first c.pop_front.ensures.rest))
    (inl (
      c.if-copied-edition.false,
      gone_at (judged old.words.reads.entries es) old c.continue_call.new.self c.continue_call.result c.args.call es s
          c.continue_call.ensures.goes,
    ))
