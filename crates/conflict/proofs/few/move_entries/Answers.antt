use Rattle.std.proofs.Common.{ap, sym, ◌∙◌, length, arith}
use Rattle.std.proofs.lemmas.List.{length_push}
use Rattle.conflict.proofs.FewLemmas.{over, over_empty, over_last}
use Rattle.conflict.proofs.few.move_entries.Goals as goal

pub loop-key-init : goal.loop-key-init
loop-key-init g c =
    let es = c.args.few.now.items in
    (ap (over es) c.requires.empty ∙ over_empty es, omega arith)

pub loop-key-preserved : goal.loop-key-preserved
loop-key-preserved g c =
    let left = c.pop.new.self.items in
    let k = c.in-Some.key in
    let v = c.in-Some.value in
    let kept = c.loop-key.invariant.1 in
    let used = c.insert_reserved.ensures.room in
    let items = c.in-Some.ensures.items in
    let len = ap length items ∙ length_push left (k, v) in (
      ap (over left) c.insert_reserved.ensures.contents ∙ sym (over_last left k v c.loop-key.many.contents)
          ∙ ap (λ es. over es c.loop-key.many.contents) (sym items) ∙ c.loop-key.invariant.0,
      omega arith,
    )
