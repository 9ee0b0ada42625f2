use Rattle.std.proofs.Common.{ap, subst, sym, ◌∙◌, refl}
use Rattle.std.specs.declared.alloc.Global.{Global}
use Rattle.std.specs.declared.vec.Vec.{Vec}
use Rattle.actor_parts.specs.Dispatch.{is_loading, next_of}
use Rattle.tx_actor.specs.Dispatch.{Records}
use Rattle.tx_actor.specs.Running.{stage_of}
use Rattle.shared_table.specs.Seated.{actor, view}
use Rattle.tx_turns.proofs.TurnLemmas.{closing_gains, ties_made}
use Rattle.tx_turns.proofs.words.close.Goals as goal

pub step_word-told-requires-clause-due : goal.step_word-told-requires-clause-due
step_word-told-requires-clause-due g c = ap (λ t. next_of (stage_of t)) c.requires.stage

pub step_word-told-requires-clause-word : goal.step_word-told-requires-clause-word
step_word-told-requires-clause-word g c = ap (λ t. is_loading (stage_of t)) c.requires.stage

pub returns-clause-ties : goal.returns-clause-ties
returns-clause-ties g c = ties_made c.args.table.now c.step_word-told.new.seat c.step_word-told.new.actor c.replace.new.dest
    c.step_word-told.ensures.ties

pub returns-clause-calls : goal.returns-clause-calls
returns-clause-calls g c = c.from_vec-calls.ensures ∙ (ap (λ (v : Vec _ Global). v.items) c.replace.ensures.value
    ∙ c.step_word-told.ensures.made (subst (λ t. Records t) (sym c.requires.stage) tt))

pub returns-clause-gains : goal.returns-clause-gains
returns-clause-gains g c =
    closing_gains (actor c.args.seat.now) c.args.actor.now _ (view c.args.seat.now).receipts (view c.step_word-told.new.seat).receipts
    c.requires.stage refl refl (returns-clause-calls g c) c.step_word-told.ensures.turned.gains

pub returns-clause-leaves : goal.returns-clause-leaves
returns-clause-leaves g c = c.step_word-told.ensures.leaves
