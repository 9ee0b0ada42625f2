use Rattle.std.proofs.Common.{◌∙◌, refl, ◌<◌, length, arith}
use Rattle.tx_turns.proofs.NextStepLemmas.{at_place, undo_is}
use Rattle.tx_turns.proofs.due.due_to_undo.Goals as goal

pub returns-clause-deed : goal.returns-clause-deed
returns-clause-deed c =
    let some : 0 < length c.args.actor.now.held.items = omega (arith, c.if-len-eq0.false, c.len.ensures, c.args.actor.now.held.ok.0) in (
      c.index.result.now.1,
      _,
      at_place c.args.actor.now _ c.requires.place
          ∙ undo_is c.args.actor.now c.index.result.now some c.index.ensures,
      refl,
    )
