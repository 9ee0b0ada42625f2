use Rattle.std.proofs.Common.{◌<◌, ◌/◌, ◌%◌, length, get_or, sym, ap, subst, ◌∙◌, arith}
use Rattle.std.specs.Prelude.{slice_index}
use Rattle.std.proofs.lemmas.List.{get_or_append_left}
use Rattle.base_queue.specs.SharedList.{flat}
use Rattle.base_queue.proofs.ChunkLemmas.{chunk_item, in_chunk}
use Rattle.std.specs.Arc.{arc_value}
use Rattle.std.proofs.Math.Nat.{mod-lt}
use Rattle.base_queue.proofs.shared_list.SharedList.at.Goals as goal

pub index-requires : goal.index-requires
index-requires c =
    let v = arc_value c.self.inside.chunks in
    let lt : c.args.place < length (flat v.items) = omega (arith, c.if-place-self.true, c.self.invariant.1) in
    let within = in_chunk 256 c.args.place v.items (omega arith) c.self.invariant.0 lt in
    subst (λ w. c.args.place / 256 < w.len) (sym c.deref.ensures) (omega (arith, within, v.ok.0))

pub at-requires : goal.at-requires
at-requires c =
    let v = arc_value c.self.inside.chunks in
    let lt : c.args.place < length (flat v.items) = omega (arith, c.if-place-self.true, c.self.invariant.1) in
    let within = in_chunk 256 c.args.place v.items (omega arith) c.self.invariant.0 lt in
    let is = c.index.ensures ∙ ap (λ w. get_or w.items (c.args.place / 256) c.index.result.now) c.deref.ensures in
    let count = ap length is ∙ c.self.invariant.0 (c.args.place / 256) c.index.result.now within in
    let below : c.args.place % 256 < 256 = mod-lt c.args.place (omega arith) in
    omega (arith, count, below)

pub returns-then-place-self : goal.returns-then-place-self
returns-then-place-self c =
    let v = arc_value c.self.inside.chunks in
    let lt : c.args.place < length (flat v.items) = omega (arith, c.if-place-self.true, c.self.invariant.1) in
    let is = c.index.ensures ∙ ap (λ w. get_or w.items (c.args.place / 256) c.index.result.now) c.deref.ensures in
    c.at.ensures ∙ ap (λ x. get_or x (c.args.place % 256) 0) is
    ∙ chunk_item 256 c.args.place 0 c.index.result.now v.items (omega arith) c.self.invariant.0 lt
    ∙ sym (get_or_append_left (flat v.items) c.self.inside.back.items 0 c.args.place lt)
    ∙ ap (λ s. slice_index s.items c.args.place) c.self.view_is
