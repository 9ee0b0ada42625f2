use Rattle.std.proofs.Common.{◌≡◌, ◌∙◌, ◌+◌, ◌-◌, ◌^◌, ap, arith, length, min}
use Rattle.std.specs.Prelude.{slice_get}
use Rattle.tx_handles.proofs.ReadLemmas.{items_of, items_read}
use Rattle.tx_handles.proofs.SumLemmas.{below}
use Rattle.tx_handles.proofs.contents_over.LaneItems.len.Goals as goal

pub returns : goal.returns
returns g c = λ lanes are.
    let last : c.gates.i ≡ c.args.self.now.gates.others + 1 = omega arith in
    c.gates.invariant
    ∙ ap (λ n. min (below (λ i. length (items_of (slice_get c.args.self.now.held.now (c.args.self.now.gates.first + i)))) n) (2 ^ 64 - 1))
    last
    ∙ ap (λ n. min n (2 ^ 64 - 1)) (items_read c.args.self.now.gates c.args.self.now.held.now lanes are)
