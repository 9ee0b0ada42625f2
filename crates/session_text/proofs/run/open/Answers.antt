use Rattle.std.proofs.Common.{subst}
use Rattle.std.specs.Prelude.{IfOk, ℕ}
use Rattle.replay_log.specs.Worlds.{World}
use Rattle.step_world.specs.Parts.{IsWorld}
use Rattle.session_text.proofs.ScriptRunLemmas.{refused_as, world_as}
use Rattle.session_text.proofs.run.open.Goals as goal

pub returns-clause-world : goal.returns-clause-world
returns-clause-world c =
    subst (λ (w : World ℕ). IfOk c.open.result (λ world. IsWorld world.parts w))
    (world_as c.args.script.now c.args.opening.now _ _ _ c.in_ok-shape.ensures.stripes c.in_ok-shape.ensures.clock c.in_ok-state.ensures)
    c.open.ensures.world

pub returns-clause-refused : goal.returns-clause-refused
returns-clause-refused c =
    refused_as c.args.script.now c.args.opening.now _ _ c.open.result c.requires.opening c.requires.within c.in_ok-shape.ensures.stripes
    c.in_ok-shape.ensures.clock (rw c.in_ok-state.ensures at c.open.ensures.refused)
