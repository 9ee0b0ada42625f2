use Rattle.std.proofs.Common.{◌≡◌, ◌<◌, length, get_or, Some, sym, ap, ◌∙◌, arith}
use Rattle.replay_log.specs.Contents.{block_of, first_of, size}
use Rattle.actor_parts.specs.Blocks as blocks
use Rattle.actor_parts.specs.Blocks.{BlocksView}
use Rattle.actor_parts.proofs.BlocksLemmas.{begins_at, block_at, length_blocks}
use Rattle.actor_parts.proofs.blocks.Blocks.first_of.Goals as goal

pub first-requires : goal.first-requires
first-requires c =
    let ps = c.self.inside.placed.items in
    let d = c.index.result.now in
    let len = ap (λ (v : BlocksView). length v.blocks) c.self.view_is in
    let within : c.args.collection < length ps = omega (arith, c.requires, len, length_blocks ps) in
    let at = begins_at c.self.inside.words ps c.self.invariant.0 c.args.collection d within c.index.ensures in
    omega (arith, at)

pub returns-clause-first : goal.returns-clause-first
returns-clause-first c =
    let ps = c.self.inside.placed.items in
    let k = c.args.collection in
    let d = c.index.result.now in
    let len = ap (λ (v : BlocksView). length v.blocks) c.self.view_is in
    let within : k < length ps = omega (arith, c.requires, len, length_blocks ps) in
    let at = begins_at c.self.inside.words ps c.self.invariant.0 k d within c.index.ensures in
    let same = ap (λ (v : BlocksView). first_of v.words v.blocks k) c.self.view_is in
    omega (arith, at, c.first.ensures.first, same)

pub returns-clause-within : goal.returns-clause-within
returns-clause-within c b there =
    let ps = c.self.inside.placed.items in
    let k = c.args.collection in
    let d = c.index.result.now in
    let len = ap (λ (v : BlocksView). length v.blocks) c.self.view_is in
    let within : k < length ps = omega (arith, c.requires, len, length_blocks ps) in
    let here : Some (blocks.block_of (get_or ps k d)) ≡ Some b =
    sym (block_at ps k d within) ∙ (ap (λ (v : BlocksView). block_of v.blocks k) c.self.view_is ∙ there) in
    let found : blocks.block_of (get_or ps k d) ≡ b = cc in
    let same : size (blocks.block_of d) ≡ size b = ap (λ p. size (blocks.block_of p)) c.index.ensures ∙ ap size found in
    omega (arith, same, c.first.ensures.first, c.first.ensures.within)
