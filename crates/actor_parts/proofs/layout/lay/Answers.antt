use Rattle.std.proofs.Common.{refl, sym, ap, ◌∙◌, get_or}
use Rattle.actor_parts.specs.Blocks.{BlocksView}
use Rattle.actor_parts.proofs.LayoutLemmas.{kind_laid, laid_more}
use Rattle.actor_parts.proofs.layout.lay.Goals as goal

pub loop-i-preserved : goal.loop-i-preserved
loop-i-preserved g c =
    let ns = c.args.stripes.now in
    let hs = c.args.held.now in
    let pushed = c.in_ok-push.ensures.ok in (
      ap (λ (v : BlocksView). v.words) pushed ∙ c.loop-i.invariant.0,
      ap (λ (v : BlocksView). v.blocks) pushed
          ∙ laid_more ns hs c.loop-i.i (get_or ns c.loop-i.i 0) c.index-held-i.result c.loop-i.blocks.blocks _ c.loop-i-test.true
          c.requires refl (sym c.index-held-i.is) (kind_laid c.kind.result c.index-held-i.result (get_or ns c.loop-i.i 0) c.kind.ensures)
          c.loop-i.invariant.1,
    )
