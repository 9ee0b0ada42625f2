use Rattle.std.proofs.Common.{◌≡◌, ◌+◌, ◌≤◌, List, [], ◌∷◌, ◌++◌, length, map, sym, ap, subst, ◌∙◌, arith, length-append}
use Rattle.replay_log.specs.Contents.{end_of, size}
use Rattle.actor_parts.specs.Blocks.{AreEnds, BlocksView, block_of}
use Rattle.actor_parts.specs.declared.blocks.BlockSpan.{BlockSpan}
use Rattle.actor_parts.specs.declared.blocks.TheConstants.{COLLECTION_LIMIT}
use Rattle.actor_parts.proofs.BlocksLemmas.{ends_more}
use Rattle.actor_parts.proofs.blocks.Blocks.push.Goals as goal

pub invariant_of-self-2 : goal.invariant_of-self-2
invariant_of-self-2 c =
    let ps = c.self.inside.placed.items in
    let w = c.self.inside.words in
    let p : BlockSpan = record {
      kind = c.args.kind;
      stripes = c.args.stripes;
      end =
          c.from.result + c.from-2.result + c.more_locations.result;
    } in
    let behind : c.end.result ≡ end_of w (map block_of ps) =
    c.end.ensures ∙ sym (ap (λ (v : BlocksView). end_of v.words v.blocks) c.self.view_is) in
    let more : size (block_of p) ≡ c.args.stripes + c.more_locations.result = c.more_locations.ensures.size c.args.stripes in
    let at_end : p.end ≡ end_of w (map block_of ps) + size (block_of p) =
    omega (arith, c.from.ensures, c.from-2.ensures, behind, more) in
    let few : length (ps ++ p ∷ []) ≤ COLLECTION_LIMIT =
    simp length-append (omega (arith, c.len.ensures, c.if-len-ge-COLLECTION_LIMIT.false)) in
    subst (λ (qs : List BlockSpan). AreEnds w qs × (length qs ≤ COLLECTION_LIMIT)) (sym c.in_ok-push.ensures.items)
    (ends_more w ps p c.self.invariant.0 at_end, few)
