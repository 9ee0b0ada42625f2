use Rattle.std.proofs.Common.{◌≡◌, ℕ, List, ◌∙◌, subst}
use Rattle.seq_model.specs.Contents.{Contents}
use Rattle.client_sessions.specs.declared.entry.Entry.{Entry}
use Rattle.step_world.specs.Parts.{IsWorld}
use Rattle.actor_parts.specs.Openings.{world_of}
use Rattle.vacation_core.specs.Stripes.{eight}
use Rattle.vacation_core.proofs.StripeLemmas.{never_refused}
use Rattle.vacation_core.proofs.opening.open.Goals as goal

pub unreachable-requires : goal.unreachable-requires
unreachable-requires c =
    let each : c.from_vec.result ≡ eight c.args.stripes = c.from_vec.ensures ∙ c.in_ok-stripes.ensures.items_if_clones_equal (λ y e. e) in
    never_refused c.args.stripes c.args.tables.now c.from_vec.result c.in_ok-state.state c.in-Err.refusal c.requires.stripes each
    c.in_ok-state.ensures c.in-Err.ensures.refused c.in_default.not-Memory

pub returns-in-Ok : goal.returns-in-Ok
returns-in-Ok c =
    let each : c.from_vec.result ≡ eight c.args.stripes = c.from_vec.ensures ∙ c.in_ok-stripes.ensures.items_if_clones_equal (λ y e. e) in
    subst (λ (s : Contents Entry). IsWorld c.in-Ok.world.parts (world_of (eight c.args.stripes) 0 s)) c.in_ok-state.ensures
    (subst (λ (ns : List ℕ). IsWorld c.in-Ok.world.parts (world_of ns 0 c.in_ok-state.state)) each c.in-Ok.ensures.world)
