use Rattle.std.proofs.Common.{refl, sym, ◌∙◌}
use Rattle.std.proofs.lemmas.Option.{slice_get_read}
use Rattle.std.proofs.lemmas.Result.{IfOk-weaker}
use Rattle.vacation_core.proofs.NextSessionLemmas.{rests_takes, takes_then}
use Rattle.vacation_core.proofs.TurnLemmas.{hears_move, move_own, own_told, place_as, place_lt}
use Rattle.vacation_core.proofs.world.VacWorld.take_at.Goals as goal

pub hear-requires : goal.hear-requires
hear-requires c = place_as c.args.i c.args.self.now c.feed.new.self c.in_ok-notice.ensures.clients c.requires.place

pub returns : goal.returns
returns c = λ p k.
    let v = c.args.self.now in
    let d = c.index.result.now in
    let got = slice_get_read v.clients.items _ c.args.i d refl (place_lt c.args.i v c.requires.place) c.index.ensures in
    rests_takes c.args.i c.args.event v d p got (sym c.is_busy.ensures ∙ c.if-is_busy.false) k

pub returns-then-is_busy : goal.returns-then-is_busy
returns-then-is_busy c =
    let v = c.args.self.now in
    let u = c.feed.new.self in
    let d = c.index.result.now in
    let e = c.args.event in
    let n = c.in_ok-notice.notice in
    let heard = c.in_ok-notice.ensures in
    let inside = c.requires.place.inside in
    let got = slice_get_read v.clients.items _ c.args.i d refl (place_lt c.args.i v c.requires.place) c.index.ensures in
    let some = sym c.is_busy.ensures ∙ c.if-is_busy.true in
    IfOk-weaker c.hear.result _ _ (λ _ h p k.
    takes_then c.args.i e v u c.hear.new.self n d p got some k
    (own_told c.args.i v u p e n inside (move_own _ e c.requires.own) heard.fed k.on)
    (h _ (hears_move c.args.i e v u d p n inside c.requires.own got some heard.fed heard.clients heard.aborted k))) c.hear.ensures
