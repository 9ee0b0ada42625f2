use Rattle.shared_table.specs.Seated.{actor}
use Rattle.tx_turns.proofs.NextLemmas.{makes_none, not_loading}
use Rattle.tx_turns.proofs.turns.step_on.Goals as goal

pub returns-in_default-clause-receipt : goal.returns-in_default-clause-receipt
returns-in_default-clause-receipt g c =
    makes_none (actor c.args.seat.now) c.args.actor.now c.args.actor.now.stage c.requires.due c.requires.open

pub returns-in_default-clause-own : goal.returns-in_default-clause-own
returns-in_default-clause-own g c =
    c.turns_keep_own.ensures.words c.args.table.now c.args.seat.now c.step_word.new.seat c.args.actor.now c.step_word.new.actor
    c.step_word.result c.args.bases.now c.requires.ties c.requires.own c.step_word.ensures.turned c.step_word.ensures.ties
    c.step_word.ensures.leaves c.requires.due (not_loading c.args.actor.now.stage c.in_default.not-Loading)
