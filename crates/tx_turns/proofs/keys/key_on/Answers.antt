use Rattle.std.proofs.Common.{sym, ◌∙◌}
use Rattle.tx_turns.proofs.KeyLemmas.{try_starved}
use Rattle.tx_turns.proofs.keys.key_on.Goals as goal

pub returns-in-Err-clause-stopped : goal.returns-in-Err-clause-stopped
returns-in-Err-clause-stopped g c =
    try_starved c.events_keep_copies.ensures.starves c.copies_by_stage.ensures.others c.args.table.now c.args.seat.now c.starve.new.seat
    c.args.actor.now c.starve.new.actor c.starve.result c.args.asked c.args.tries c.reserve.new.self.items
    (sym (c.reserve.ensures.items ∙ c.requires.none)) c.requires.ties c.requires.own c.starve.ensures.starved c.starve.ensures.ties
    c.starve.ensures.leaves
