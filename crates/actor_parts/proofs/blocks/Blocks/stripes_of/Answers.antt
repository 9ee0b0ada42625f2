use Rattle.std.proofs.Common.{◌≡◌, ◌<◌, length, get_or, Some, sym, ap, ◌∙◌, arith}
use Rattle.replay_log.specs.Contents.{Block, block_of}
use Rattle.actor_parts.specs.Blocks as blocks
use Rattle.actor_parts.specs.Blocks.{BlocksView}
use Rattle.actor_parts.proofs.BlocksLemmas.{block_at, length_blocks}
use Rattle.actor_parts.proofs.blocks.Blocks.stripes_of.Goals as goal

pub returns : goal.returns
returns c b there =
    let ps = c.self.inside.placed.items in
    let k = c.args.collection in
    let d = c.index.result.now in
    let len = ap (λ (v : BlocksView). length v.blocks) c.self.view_is in
    let within : k < length ps = omega (arith, c.requires, len, length_blocks ps) in
    let here : Some (blocks.block_of (get_or ps k d)) ≡ Some b =
    sym (block_at ps k d within) ∙ (ap (λ (v : BlocksView). block_of v.blocks k) c.self.view_is ∙ there) in
    let found : blocks.block_of (get_or ps k d) ≡ b = cc in
    ap (λ p. (blocks.block_of p).stripes) c.index.ensures ∙ ap (λ (p : Block). p.stripes) found
