use Rattle.std.proofs.Common.{subst}
use Rattle.tx_actor.specs.declared.actor.ActorNotice.{ActorNotice}
use Rattle.shared_table.specs.Seated.{opening_of}
use Rattle.tx_turns.specs.Driven.{Driven}
use Rattle.tx_turns.proofs.begins.begin_next.Goals as goal

pub returns-then-is_to_begin-clause-leads : goal.returns-then-is_to_begin-clause-leads
returns-then-is_to_begin-clause-leads g c = λ d s h.
    subst (λ (n : ActorNotice _). Driven (opening_of c.args.table.now) s c.begin_on.new.seat n d) c.report.ensures.told
    (c.begin_on.ensures.leads.driven s d h)

pub returns-clause-leads : goal.returns-clause-leads
returns-clause-leads g c = λ d s h. h
