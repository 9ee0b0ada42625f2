use Rattle.std.proofs.Common.{◌≤◌, length, subst, arith}
use Rattle.std.proofs.lemmas.List.FromFn.{length-range_with_len}
use Rattle.conflict.specs.Footprints.{map_reads}
use Rattle.base_map.proofs.footprints.reads_in.Goals as goal

pub returns-in-Len-clause-served : goal.returns-in-Len-clause-served
returns-in-Len-clause-served g c =
    let n = c.args.stripes in
    let len = length-range_with_len 0 n in
    λ few.
    let all = subst (λ o. length (map_reads n o) ≤ 8) c.in-Len.is few in
    c.all_below.ensures.served (omega arith)
