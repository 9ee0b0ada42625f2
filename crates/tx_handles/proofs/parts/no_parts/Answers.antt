use Rattle.std.proofs.Common.{◌≡◌, ◌+◌, arith, replicate, subst}
use Rattle.std.specs.FinMap.{empty}
use Rattle.tx_handles.proofs.LayoutLemmas.{no_parts}
use Rattle.tx_handles.proofs.parts.no_parts.Goals as goal

pub returns : goal.returns
returns g c =
    let all : c.parts.counter ≡ c.args.gates.others + 1 = omega arith in
    no_parts c.args.gates c.parts.parts.items (subst (λ n. c.parts.parts.items ≡ replicate n empty) all c.parts.invariant)
