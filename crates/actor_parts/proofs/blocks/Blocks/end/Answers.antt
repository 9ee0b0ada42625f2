use Rattle.std.proofs.Common.{◌≡◌, suc, ◌-◌, length, ap, ◌∙◌, arith}
use Rattle.replay_log.specs.Contents.{end_of}
use Rattle.actor_parts.specs.Blocks.{BlocksView}
use Rattle.actor_parts.specs.declared.blocks.BlockSpan.{BlockSpan}
use Rattle.actor_parts.proofs.BlocksLemmas.{end_last}
use Rattle.actor_parts.proofs.blocks.Blocks.end.Goals as goal

pub returns : goal.returns
returns c =
    let ps = c.self.inside.placed.items in
    let d = c.index.result.now in
    let last : suc (c.len-count.result - 1) ≡ length ps = omega (arith, c.len-count.ensures, c.if-count-eq0.false) in
    ap (λ (p : BlockSpan). p.end) c.index.ensures
    ∙ (end_last c.self.inside.words ps c.self.invariant.0 (c.len-count.result - 1) d last
    ∙ ap (λ (v : BlocksView). end_of v.words v.blocks) c.self.view_is)
