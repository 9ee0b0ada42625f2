use Rattle.std.proofs.Common.{◌≡◌, ◌≤◌, false, length, ap, sym, ◌∙◌, arith}
use Rattle.std.specs.FinMap as map
use Rattle.conflict.specs.Few.{room_of}
use Rattle.conflict.proofs.FewLemmas.{found_at, get_missing, place}
use Rattle.conflict.proofs.few.FewKeys.get.Goals as goal

pub returns-then-place-few : goal.returns-then-place-few
returns-then-place-few g c =
    let s = c.self.inside in
    let k = c.args.key in
    let is_few : s.is_many ≡ false = c.if-self.false in
    let es = c.as_slice-few.result.now in
    found_at k es c.position_of-place.result c.index-few-place.result c.position_of-place.ensures c.if-place-few.true
    ∙ ap (λ xs. map.get (room_of false xs s.few.cap s.many).contents k) c.as_slice-few.ensures.value
    ∙ ap (λ b. map.get (room_of b s.few.items s.few.cap s.many).contents k) (sym is_few)
    ∙ ap (λ r. map.get r.contents k) c.self.view_is

pub returns-else-place-few : goal.returns-else-place-few
returns-else-place-few g c =
    let s = c.self.inside in
    let k = c.args.key in
    let is_few : s.is_many ≡ false = c.if-self.false in
    let es = c.as_slice-few.result.now in
    let at : c.position_of-place.result ≡ place k es = c.position_of-place.ensures in
    let past : length es ≤ place k es = omega (arith, c.if-place-few.false) in
    sym (get_missing k es past)
    ∙ ap (λ xs. map.get (room_of false xs s.few.cap s.many).contents k) c.as_slice-few.ensures.value
    ∙ ap (λ b. map.get (room_of b s.few.items s.few.cap s.many).contents k) (sym is_few)
    ∙ ap (λ r. map.get r.contents k) c.self.view_is
