use Rattle.std.proofs.Common.{[], sym, subst}
use Rattle.tx_actor.specs.declared.actor.TxActor.{TxActor}
use Rattle.tx_turns.specs.Own.{HasOwn}
use Rattle.tx_turns.specs.Ties.{Ties}
use Rattle.tx_turns.proofs.keys.drive_call.Goals as goal

pub key_through-requires-clause-ties : goal.key_through-requires-clause-ties
key_through-requires-clause-ties g c =
    subst (λ (r : TxActor _). Ties c.args.table.now c.args.seat.now r) c.in-Some.ensures.some c.requires.ties

pub key_through-requires-clause-own : goal.key_through-requires-clause-own
key_through-requires-clause-own g c =
    subst (λ (r : TxActor _). HasOwn c.args.table.now c.args.seat.now r []) c.in-Some.ensures.some c.requires.own

pub word_through-requires-clause-ties : goal.word_through-requires-clause-ties
word_through-requires-clause-ties g c =
    subst (λ (r : TxActor _). Ties c.args.table.now c.args.seat.now r) (sym c.in-None.ensures.none) c.requires.ties
