use Rattle.std.proofs.Common.{◌≡◌, ◌<◌, ◌≤◌, length, ap, ◌∙◌, arith}
use Rattle.std.specs.Ordering.{nat_cmp}
use Rattle.std.specs.FinMap as map
use Rattle.conflict.proofs.FewLemmas.{place, insert_last, put_at}
use Rattle.conflict.proofs.few.put_few.Goals as goal

pub returns-then-place-len-clause-contents : goal.returns-then-place-len-clause-contents
returns-then-place-len-clause-contents g c =
    let k = c.args.key in
    let es = c.args.few.now.items in
    let at : c.position_of-place.result ≡ place k es = c.position_of-place.ensures ∙ ap (place k) c.as_slice.ensures.value in
    let within : c.position_of-place.result < length es = omega (arith, c.if-place-len.true, c.len.ensures, c.args.few.now.ok) in
    put_at k c.args.value es c.position_of-place.result c.index_mut.result.now at within c.index_mut.ensures.value

pub returns-else-place-len-clause-contents : goal.returns-else-place-len-clause-contents
returns-else-place-len-clause-contents g c =
    let k = c.args.key in
    let es = c.args.few.now.items in
    let at : c.position_of-place.result ≡ place k es = c.position_of-place.ensures ∙ ap (place k) c.as_slice.ensures.value in
    let past : length es ≤ place k es = omega (arith, c.if-place-len.false, c.len.ensures, c.args.few.now.ok) in
    ap (map.from_entries {R = nat_cmp}) c.push_reserved.ensures.items ∙ insert_last k c.args.value es past
