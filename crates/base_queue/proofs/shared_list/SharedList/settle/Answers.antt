use Rattle.std.proofs.Common.{◌≡◌, ◌+◌, ◌-◌, ◌*◌, ◌/◌, ◌≤◌, ◌++◌, drop, length, sym, ap, subst, ◌∙◌, arith}
use Rattle.std.proofs.lemmas.List.{length-drop}
use Rattle.std.specs.Arc.{arc_value}
use Rattle.seq_model.specs.declared.limits.TheConstants.{INDEX_LIMIT}
use Rattle.base_queue.specs.SharedList.{AreOf, flat}
use Rattle.base_queue.proofs.ChunkLemmas.{few_gone, settled, settled_count}
use Rattle.base_queue.proofs.shared_list.SharedList.settle.Goals as goal

pub rebuilt-requires : goal.rebuilt-requires
rebuilt-requires c =
    let cs = (arc_value c.self.inside.chunks).items in
    let le : c.min-gone.result ≤ length (flat cs) = omega (arith, c.min-gone.ensures, c.self.invariant.1) in
    let few = few_gone 256 c.min-gone.result cs c.self.invariant.0 le in
    let is = c.as_slice.ensures.value ∙ ap (λ v. v.items) c.deref-2.ensures in
    subst (λ xs. c.min-gone.result / 256 ≤ length xs) (sym is) few

pub invariant_of-self-in-Ok-new : goal.invariant_of-self-in-Ok-new
invariant_of-self-in-Ok-new c =
    let cs = (arc_value c.self.inside.chunks).items in
    let back = c.self.inside.back.items in
    let k = c.min-gone.result / 256 in
    let all = c.self.invariant.0 in
    let le : c.min-gone.result ≤ length (flat cs) = omega (arith, c.min-gone.ensures, c.self.invariant.1) in
    let few = few_gone 256 c.min-gone.result cs all le in
    let made : arc_value c.in-Ok-new.chunks ≡ c.in-Ok.chunks = c.in-Ok-new.ensures.ok in
    let left : c.cut_front-in-Ok-new.new.items.items ≡ drop c.in-Ok.moved back = c.cut_front-in-Ok-new.ensures.items in
    let is = c.as_slice.ensures.value ∙ ap (λ v. v.items) c.deref-2.ensures in
    let behind = c.as_slice-2.ensures.value in
    let same : flat c.in-Ok.chunks.items ++ drop c.in-Ok.moved back ≡ flat (drop k cs) ++ back =
    subst (λ b. flat c.in-Ok.chunks.items ++ drop c.in-Ok.moved b ≡ flat (drop k cs) ++ b) behind
    (c.in-Ok.ensures.items ∙ ap (λ ds. flat (drop k ds) ++ c.as_slice-2.result.now) is) in
    let moved : c.in-Ok.moved ≤ length back = subst (λ b. c.in-Ok.moved ≤ length b) behind c.in-Ok.ensures.moved in
    let items = settled 256 k c.in-Ok.moved cs c.in-Ok.chunks.items back c.cut_front-in-Ok-new.new.items.items all few left same in
    let count = settled_count 256 k c.in-Ok.moved cs c.in-Ok.chunks.items back all few moved same in (
      subst (λ v. AreOf 256 v.items) (sym made) (c.in-Ok.ensures.full (subst (AreOf 256) (sym is) all)),
      ap (λ n. n - k * 256 + c.in-Ok.moved) c.self.invariant.1 ∙ count ∙ ap (λ v. length (flat v.items)) (sym made),
      subst (λ v. length (flat v.items ++ c.cut_front-in-Ok-new.new.items.items) ≤ INDEX_LIMIT) (sym made)
          (omega (arith, ap length items, length-drop (k * 256) (flat cs ++ back), c.self.invariant.2)),
    )

pub returns-in-Ok-new-clause-items : goal.returns-in-Ok-new-clause-items
returns-in-Ok-new-clause-items c =
    let cs = (arc_value c.self.inside.chunks).items in
    let back = c.self.inside.back.items in
    let k = c.min-gone.result / 256 in
    let all = c.self.invariant.0 in
    let le : c.min-gone.result ≤ length (flat cs) = omega (arith, c.min-gone.ensures, c.self.invariant.1) in
    let few = few_gone 256 c.min-gone.result cs all le in
    let made : arc_value c.in-Ok-new.chunks ≡ c.in-Ok.chunks = c.in-Ok-new.ensures.ok in
    let left : c.cut_front-in-Ok-new.new.items.items ≡ drop c.in-Ok.moved back = c.cut_front-in-Ok-new.ensures.items in
    let is = c.as_slice.ensures.value ∙ ap (λ v. v.items) c.deref-2.ensures in
    let behind = c.as_slice-2.ensures.value in
    let same : flat c.in-Ok.chunks.items ++ drop c.in-Ok.moved back ≡ flat (drop k cs) ++ back =
    subst (λ b. flat c.in-Ok.chunks.items ++ drop c.in-Ok.moved b ≡ flat (drop k cs) ++ b) behind
    (c.in-Ok.ensures.items ∙ ap (λ ds. flat (drop k ds) ++ c.as_slice-2.result.now) is) in
    ap (λ v. flat v.items ++ c.cut_front-in-Ok-new.new.items.items) made
    ∙ settled 256 k c.in-Ok.moved cs c.in-Ok.chunks.items back c.cut_front-in-Ok-new.new.items.items all few left same
    ∙ ap (λ s. drop (k * 256) s.items) c.self.view_is
