use Rattle.std.proofs.Common.{refl, ◌+◌}
use Rattle.std.proofs.lemmas.Result.{IfOk-weaker}
use Rattle.seq_model.specs.declared.event.Event.TheVariants as event
use Rattle.seq_model.specs.declared.event.Request.TheVariants as request
use Rattle.vacation_core.proofs.AskLemmas.{calls_now}
use Rattle.vacation_core.proofs.TurnLemmas.{fed_at, place_as}
use Rattle.vacation_core.proofs.world.VacWorld.call.Goals as goal

pub called-requires : goal.called-requires
called-requires c = place_as c.args.i c.args.self.now c.feed.new.self c.in_ok-notice.ensures.clients c.requires.place

pub returns-clause-ok : goal.returns-clause-ok
returns-clause-ok c =
    let v = c.args.self.now in
    let u = c.feed.new.self in
    IfOk-weaker c.called.result _ _ (λ _ h k to x. h k c.args.call to
    (calls_now c.args.i k c.args.call v u c.in_ok-notice.notice to c.requires.place c.requires.asks
    (fed_at v.world.parts u.world.parts (λ a. event.Ask a (request.Call c.args.call)) _ (c.args.i + 1) _ _ c.actor_at-actor.ensures refl
    c.in_ok-notice.ensures.fed)
    c.in_ok-notice.ensures.clients c.in_ok-notice.ensures.aborted x)) c.called.ensures.ok
