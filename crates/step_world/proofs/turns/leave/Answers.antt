use Rattle.std.proofs.Common.{refl, sym, ap, subst, ◌∙◌}
use Rattle.std.specs.declared.alloc.Global.{Global}
use Rattle.std.specs.declared.vec.Vec.{Vec}
use Rattle.tx_actor.specs.Dispatch.{Records}
use Rattle.tx_actor.specs.declared.actor.Stage.TheVariants as stage
use Rattle.step_world.proofs.TurnLemmas.{turns_made}
use Rattle.tx_actor.proofs.StepLemmas.{running_made, stage_due, stage_quiet}
use Rattle.step_world.proofs.turns.leave.Goals as goal

pub step_word-told-requires-clause-due : goal.step_word-told-requires-clause-due
step_word-told-requires-clause-due g c = stage_due c.args.actor.now stage.Leaving c.requires.stage refl

pub step_word-told-requires-clause-word : goal.step_word-told-requires-clause-word
step_word-told-requires-clause-word g c = stage_quiet c.args.actor.now stage.Leaving c.requires.stage refl

pub returns-clause-turns : goal.returns-clause-turns
returns-clause-turns g c = λ v a. turns_made v _ c.args.table.now c.step_word-told.new.table c.args.actor.now c.step_word-told.new.actor
    c.replace.new.dest c.step_word-told.result (c.step_word-told.ensures.turns v a)

pub returns-clause-running : goal.returns-clause-running
returns-clause-running g c = running_made c.args.blocks.now c.step_word-told.new.actor c.replace.new.dest c.step_word-told.ensures.running

pub returns-clause-calls : goal.returns-clause-calls
returns-clause-calls g c = c.from_vec-calls.ensures ∙ (ap (λ (v : Vec _ Global). v.items) c.replace.ensures.value
    ∙ c.step_word-told.ensures.made (subst (λ t. Records t) (sym c.requires.stage) tt))

pub returns-clause-leaves : goal.returns-clause-leaves
returns-clause-leaves g c = c.step_word-told.ensures.leaves
