use Rattle.std.proofs.Common.{◌≡◌, rules, false, ap, sym, ◌∙◌}
use Rattle.std.specs.Ordering.{nat_cmp}
use Rattle.std.specs.FinMap as map
use Rattle.std.proofs.lemmas.Fn.{filter_same}
use Rattle.conflict.specs.Few.{room_of}
use Rattle.conflict.proofs.FewLemmas.{remove_all}
use Rattle.conflict.proofs.few.FewKeys.remove.Goals as goal

pub returns-else-self-clause-contents : goal.returns-else-self-clause-contents
returns-else-self-clause-contents g c =
    let s = c.self.inside in
    let key = c.args.key in
    let is_few : s.is_many ≡ false = c.if-self.false in
    let kept = filter_same _ _ _ (λ x b f' k. search rules) _ _ c.retain.ensures.filtered in
    ap (λ b. (room_of b c.retain.new.self.items c.retain.new.self.cap s.many).contents) is_few
    ∙ ap (map.from_entries {R = nat_cmp}) kept ∙ remove_all key s.few.items
    ∙ ap (λ b. map.remove (room_of b s.few.items s.few.cap s.many).contents key) (sym is_few)
    ∙ ap (λ r. map.remove r.contents key) c.self.view_is
