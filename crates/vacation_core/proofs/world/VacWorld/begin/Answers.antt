use Rattle.std.proofs.Common.{◌+◌, ap, refl, sym, subst, ◌∙◌}
use Rattle.std.specs.Prelude.{slice_set}
use Rattle.std.proofs.lemmas.Option.{slice_get_read}
use Rattle.std.proofs.lemmas.Result.{IfOk-weaker}
use Rattle.seq_model.specs.declared.event.Event.TheVariants as event
use Rattle.seq_model.specs.declared.event.Request.TheVariants as request
use Rattle.seq_model.specs.declared.refusal.Refusal.TheVariants.{NotIdle}
use Rattle.vacation_core.specs.Clients.{begun}
use Rattle.vacation_core.specs.Plays.{ends}
use Rattle.vacation_core.specs.Running.{IsPlay}
use Rattle.vacation_core.proofs.NextSessionLemmas.{begins_now, busy_begins}
use Rattle.vacation_core.proofs.TurnLemmas.{fed_at, place_as, place_lt}
use Rattle.vacation_core.proofs.world.VacWorld.begin.Goals as goal

pub returns-then-is_busy : goal.returns-then-is_busy
returns-then-is_busy c =
    let v = c.args.self.now in
    let d = c.index.result.now in
    let got = slice_get_read v.clients.items _ c.args.i d refl (place_lt c.args.i v c.requires.place) c.index.ensures in
    IfOk-weaker c.end.result _ _ (λ _ h p k. busy_begins c.args.i c.args.action.now v c.end.new.self d p got
    (sym c.is_busy.ensures ∙ c.if-is_busy.true) k
    (subst (λ a. IsPlay c.end.new.self (ends a NotIdle p)) c.actor_at-actor.ensures (h p k))) c.end.ensures

pub returns : goal.returns
returns c = λ p k.
    let v = c.args.self.now in
    let u = c.feed.new.self in
    let d = c.index.result.now in
    let x = c.index_mut.result.now in
    let got = slice_get_read v.clients.items _ c.args.i d refl (place_lt c.args.i v c.requires.place) c.index.ensures in
    let got' = slice_get_read u.clients.items _ c.args.i x refl
    (place_lt c.args.i u (place_as c.args.i v u c.in_ok-_notice.ensures.clients c.requires.place)) c.index_mut.ensures.value in
    begins_now c.args.i c.args.action.now v u _ c.in_ok-_notice._notice d x p c.requires.place c.requires.allowed got got'
    (sym c.is_busy.ensures ∙ c.if-is_busy.false)
    (fed_at v.world.parts u.world.parts (λ a. event.Ask a request.Begin) _ (c.args.i + 1) _ _ c.actor_at-actor.ensures refl
    c.in_ok-_notice.ensures.fed)
    c.in_ok-_notice.ensures.clients c.in_ok-_notice.ensures.aborted refl refl
    (ap (λ y. slice_set u.clients.items c.args.i y) (c.begin.ensures ∙ ap (λ a. begun a x) c.in_ok-session.ensures)) k
