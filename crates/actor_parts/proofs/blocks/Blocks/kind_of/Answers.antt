use Rattle.std.proofs.Common.{◌<◌, Some, None, length, get_or, sym, ap, subst, arith}
use Rattle.actor_parts.specs.Blocks.{BlocksView, IsKindAt, block_of, kind_of}
use Rattle.actor_parts.specs.declared.blocks.BlockSpan.{BlockSpan}
use Rattle.actor_parts.proofs.BlocksLemmas.{block_at, length_blocks, no_block_at}
use Rattle.actor_parts.proofs.blocks.Blocks.kind_of.Goals as goal

pub returns-then-i-len : goal.returns-then-i-len
returns-then-i-len c =
    let ps = c.self.inside.placed.items in
    subst (λ (v : BlocksView). IsKindAt v c.args.collection None) c.self.view_is
    (no_block_at ps c.args.collection (omega (arith, c.len.ensures, c.if-i-len.true)))

pub returns : goal.returns
returns c =
    let ps = c.self.inside.placed.items in
    let k = c.args.collection in
    let d = c.index.result.now in
    let within : k < length ps = omega (arith, c.len.ensures, c.if-i-len.false) in
    let at = block_at ps k d within in
    subst (λ (v : BlocksView). IsKindAt v k (Some d.kind)) c.self.view_is (
      block_of (get_or ps k d),
      omega (arith, length_blocks ps, within),
      at,
      ap (λ (p : BlockSpan). kind_of p.kind) (sym c.index.ensures),
    )
