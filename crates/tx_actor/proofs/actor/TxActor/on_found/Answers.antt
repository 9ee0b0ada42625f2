use Rattle.std.proofs.Common.{sym, ◌∙◌}
use Rattle.tx_machine.specs.Notices as notice
use Rattle.tx_actor.proofs.LoadLemmas.{none_as}
use Rattle.tx_actor.proofs.LoadBoundsLemmas.{heard_none}
use Rattle.std.proofs.Common.{subst}
use Rattle.tx_sets.specs.Entries.{Entries}
use Rattle.tx_actor.specs.CopiesByStage.{HasFound}
use Rattle.tx_actor.specs.Running.{at}
use Rattle.tx_actor.specs.declared.actor.Stage.TheVariants as stage
use Rattle.tx_actor.proofs.CallStageLemmas.{first_none}
use Rattle.tx_actor.proofs.actor.TxActor.on_found.Goals as goal

pub returns-in-None-clause-does : goal.returns-in-None-clause-does
returns-in-None-clause-does g c =
    none_as c.args.self.now c.unchanged.new.self c.unchanged.result c.args.call c.args.left (notice.Number c.args.edition)
    c.unchanged.ensures.stage c.unchanged.ensures.told (sym c.first_left.ensures ∙ c.in-None.is)

pub returns-in-None-clause-keeps : goal.returns-in-None-clause-keeps
returns-in-None-clause-keeps g c v =
    heard_none v c.args.self.now c.unchanged.new.self c.args.call c.args.left c.args.edition c.unchanged.ensures.stage
    (sym c.first_left.ensures ∙ c.in-None.is)

pub returns-in-Some-clause-keeps : goal.returns-in-Some-clause-keeps
returns-in-Some-clause-keeps g c v = c.on_first_found.ensures.keeps v

pub returns-in-None-clause-goes : goal.returns-in-None-clause-goes
returns-in-None-clause-goes g c =
    let r = at c.args.self.now (stage.Loading c.args.call c.args.left) in
    subst (λ (fs : Entries). HasFound r c.unchanged.new.self c.unchanged.result c.args.call fs c.args.edition)
    (sym (first_none c.args.left.items (sym c.first_left.ensures ∙ c.in-None.is))) (c.unchanged.ensures.stage, c.unchanged.ensures.told)

pub returns-in-Some-clause-goes : goal.returns-in-Some-clause-goes
returns-in-Some-clause-goes g c = c.on_first_found.ensures.goes
