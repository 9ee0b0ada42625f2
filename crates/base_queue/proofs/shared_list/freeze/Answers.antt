use Rattle.std.proofs.Common.{◌≡◌, ◌+◌, ◌-◌, ◌≤◌, ◌++◌, ◌∷◌, [], drop, length, take, sym, ap, subst, ◌∙◌, arith}
use Rattle.std.proofs.lemmas.List.{length-drop, length-take}
use Rattle.base_queue.specs.SharedList.{AreOf, flat}
use Rattle.base_queue.proofs.ChunkLemmas.{frozen_at, of_pushed}
use Rattle.base_queue.proofs.shared_list.freeze.Goals as goal

pub loop-at-preserved : goal.loop-at-preserved
loop-at-preserved c =
    let xs = c.args.items.now in
    let at = c.loop-at.at in
    let before = c.loop-at.invariant in
    let count : at + 256 - at ≡ 256 = omega arith in
    let le : at + 256 ≤ length xs = omega (arith, c.loop-at-test.true) in
    let chunk = c.in_ok-of_slice.ensures ∙ ap (λ k. take k (drop at xs)) count in
    let full : length c.in_ok-of_slice.field-0 ≡ 256 =
    ap length chunk ∙ omega (arith, le, length-take 256 (drop at xs), length-drop at xs) in
    let pushed = c.in_ok-push.ensures.items in (
      ap (λ cs. flat cs ++ drop (at + 256) xs) (pushed ∙ ap (λ x. c.loop-at.list.items ++ x ∷ []) chunk)
          ∙ frozen_at 256 at c.loop-at.list.items xs ∙ before.0,
      λ all. subst (AreOf 256) (sym pushed) (of_pushed 256 c.in_ok-of_slice.field-0 c.loop-at.list.items (before.1 all) full),
      le,
    )
