use Rattle.std.proofs.Common.{sym, ◌∙◌}
use Rattle.tx_machine.specs.Notices as notice
use Rattle.tx_actor.proofs.LoadLemmas.{moved_as, none_as}
use Rattle.tx_actor.specs.declared.actor.Stage.TheVariants as stage
use Rattle.tx_actor.proofs.LoadBoundsLemmas.{heard_ends, moved_none}
use Rattle.std.proofs.Common.{inl, inr}
use Rattle.tx_actor.proofs.CopiesByStageLemmas.{asks_nothing}
use Rattle.tx_actor.proofs.actor.TxActor.on_moved.Goals as goal

pub returns-in-None-clause-does : goal.returns-in-None-clause-does
returns-in-None-clause-does g c =
    none_as c.args.self.now c.unchanged.new.self c.unchanged.result c.args.call c.args.left (notice.Moved c.args.location c.args.word)
    c.unchanged.ensures.stage c.unchanged.ensures.told (sym c.first_left.ensures ∙ c.in-None.is)

pub returns-in-Some-clause-does : goal.returns-in-Some-clause-does
returns-in-Some-clause-does g c =
    moved_as c.args.self.now c.abort_for.new.self c.abort_for.result c.args.call c.args.left _ c.args.location c.args.word
    (sym c.first_left.ensures ∙ c.in-Some.is) c.abort_for.ensures.does

pub returns-in-None-clause-keeps : goal.returns-in-None-clause-keeps
returns-in-None-clause-keeps g c v =
    moved_none v c.args.self.now c.unchanged.new.self c.args.call c.args.left c.args.location c.args.word c.unchanged.ensures.stage
    (sym c.first_left.ensures ∙ c.in-None.is)

pub returns-in-Some-clause-keeps : goal.returns-in-Some-clause-keeps
returns-in-Some-clause-keeps g c v =
    heard_ends v c.args.self.now c.abort_for.new.self (stage.Loading c.args.call c.args.left) (notice.Moved c.args.location c.args.word)
    (c.abort_for.ensures.keeps v)

pub returns-in-None-clause-goes : goal.returns-in-None-clause-goes
returns-in-None-clause-goes g c = inr (c.unchanged.ensures.stage, c.unchanged.ensures.told)

pub returns-in-Some-clause-goes : goal.returns-in-Some-clause-goes
returns-in-Some-clause-goes g c = inl (asks_nothing c.args.self.now c.abort_for.new.self c.abort_for.ensures.leaves)
