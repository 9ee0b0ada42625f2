use Rattle.std.proofs.Common.{ℕ, List, refl}
use Rattle.std.specs.Prelude.{IfOk, IsOk, Result, Ok, Err}
use Rattle.seq_model.specs.declared.refusal.Refusal.{Refusal}
use Rattle.seq_model.specs.Contents.{Contents}
use Rattle.actor_parts.specs.Openings.{world_of}
use Rattle.step_world.specs.declared.parts.Parts.{Parts}
use Rattle.step_world.specs.Parts.{HasWorld, IsWorld}
use Rattle.step_world.specs.Reached.{IsReached}
use Rattle.step_world.proofs.ReachedLemmas.{opened_well}
use Rattle.session_text.proofs.ScriptRunLemmas.{refused_as}
use Rattle.interleavings.proofs.opening.open.Goals as goal

has_world : (r : Result (Parts ℕ) Refusal) (ns : List ℕ) (clock : ℕ) (s : Contents ℕ) → IfOk r (λ c. IsWorld c (world_of ns clock s))
    → (IsOk r → IsReached s (world_of ns clock s)) → IfOk r HasWorld
has_world (Ok c) ns clock s h reached = opened_well c ns clock s (reached refl) h
has_world (Err e) ns clock s h reached = tt

pub returns-clause-world : goal.returns-clause-world
returns-clause-world c = has_world c.open.result _ _ _ c.open.ensures.world c.open.ensures.reached

pub returns-clause-refused : goal.returns-clause-refused
returns-clause-refused c =
    refused_as c.args.script.now c.in_ok-opening.opening _ _ c.open.result c.in_ok-opening.ensures.opening
    (c.in_ok-opening.ensures.within refl) c.in_ok-shape.ensures.stripes c.in_ok-shape.ensures.clock c.open.ensures.refused
