use Rattle.std.proofs.Common.{None, subst}
use Rattle.tx_actor.specs.declared.actor.ActorNotice.{ActorNotice}
use Rattle.shared_table.specs.Seated.{opening_of}
use Rattle.tx_turns.specs.Driven.{Driven}
use Rattle.tx_turns.proofs.RestLemmas.{answered_own}
use Rattle.tx_turns.proofs.driving.finish_told.Goals as goal

pub finish_from-requires-clause-come : goal.finish_from-requires-clause-come
finish_from-requires-clause-come g c = (
  c.requires.come.0,
  subst (λ (n : ActorNotice _). Driven (opening_of c.args.table.now) c.requires.come.0 c.args.seat.now n None) c.in-Quiet.is
      c.requires.come.1,
)

pub returns-in-Quiet-clause-leads : goal.returns-in-Quiet-clause-leads
returns-in-Quiet-clause-leads g c s h =
    c.finish_from.ensures.leads s (subst (λ (n : ActorNotice _). Driven (opening_of c.args.table.now) s c.args.seat.now n None)
    c.in-Quiet.is h)

-- it has answered
pub returns-in_default-clause-leads : goal.returns-in_default-clause-leads
returns-in_default-clause-leads g c s h = h

pub returns-in_default-clause-own : goal.returns-in_default-clause-own
returns-in_default-clause-own g c =
    answered_own c.args.table.now c.requires.come.0 c.args.seat.now c.args.actor.now c.args.bases.now.items c.args.told None
    c.in_default.not-Quiet c.requires.come.1 c.requires.ties c.requires.own
