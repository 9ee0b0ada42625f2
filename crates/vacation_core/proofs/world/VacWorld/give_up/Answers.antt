use Rattle.std.proofs.Common.{◌+◌, ap, refl}
use Rattle.std.specs.Prelude.{slice_set}
use Rattle.std.proofs.lemmas.Option.{slice_get_read}
use Rattle.seq_model.specs.declared.event.Event.TheVariants as event
use Rattle.seq_model.specs.declared.event.Notice.TheVariants.{Quiet}
use Rattle.seq_model.specs.declared.event.Request.TheVariants as request
use Rattle.vacation_core.proofs.AskLemmas.{gives_up_none, gives_up_open}
use Rattle.vacation_core.proofs.TurnLemmas.{fed_at, place_as, place_lt}
use Rattle.vacation_core.proofs.world.VacWorld.give_up.Goals as goal

pub returns-clause-ok : goal.returns-clause-ok
returns-clause-ok c = λ p r.
    let v = c.args.self.now in
    let u = c.feed.new.self in
    let d = c.index_mut.result.now in
    let got = slice_get_read u.clients.items _ c.args.i d refl
    (place_lt c.args.i u (place_as c.args.i v u c.in_ok-notice.ensures.clients c.requires)) c.index_mut.ensures.value in
    gives_up_open c.args.i c.args.cause v u _ d p c.requires.inside got
    (fed_at v.world.parts u.world.parts (λ a. event.Ask a request.Abort) _ (c.args.i + 1) _ Quiet c.actor_at-actor.ensures c.in-Quiet.is
    c.in_ok-notice.ensures.fed)
    c.in_ok-notice.ensures.clients c.in_ok-notice.ensures.aborted refl refl
    (ap (λ y. slice_set u.clients.items c.args.i y) c.fail.ensures) r

pub returns-in_default-clause-ok : goal.returns-in_default-clause-ok
returns-in_default-clause-ok c = λ p r.
    let v = c.args.self.now in
    let u = c.feed.new.self in
    gives_up_none c.args.i c.args.cause v u c.in_ok-notice.notice p c.requires c.in_default.not-Quiet
    (fed_at v.world.parts u.world.parts (λ a. event.Ask a request.Abort) _ (c.args.i + 1) _ _ c.actor_at-actor.ensures refl
    c.in_ok-notice.ensures.fed)
    c.in_ok-notice.ensures.clients c.in_ok-notice.ensures.aborted r
