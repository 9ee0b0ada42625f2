use Rattle.std.proofs.Common.{◌≡◌, ◌∷◌, true, ◌∙◌, sym, ◌+◌, drop}
use Rattle.seq_model.specs.Programs.{after}
use Rattle.client_sessions.specs.Gets.{tells_item}
use Rattle.client_sessions.specs.Sessions as programs
use Rattle.client_sessions.proofs.GetLemmas.{gather_told}
use Rattle.client_sessions.proofs.walk.Walk.gather_each.Goals as goal

pub loop-ask-preserved : goal.loop-ask-preserved
loop-ask-preserved c =
    let l = c.loop-ask in
    let e = c.improve_told.ensures in
    let on : c.improve_told.result ≡ true = c.if-not-improve_told.false in
    let is : c.loop-ask.self ≡ c.in-Some.reply.now ∷ c.next.new.self = c.in-Some.ensures in
    let tells : tells_item c.in-Some.reply.now ≡ true = sym e.tells ∙ on in
    record {
      gathered = λ next. l.invariant.gathered next
          ∙ gather_told c.args.asks.now l.ask-index _ l.best.car l.best.flight l.best.room next l.self c.next.new.self
          c.in-Some.reply.now c.loop-ask-test.true is tells
          ∙ (λ j. after (programs.gather (drop (l.ask-index + 1) c.args.asks.now) (sym (e.car on) j) (sym (e.flight on) j)
          (sym (e.room on) j) next) c.next.new.self);
      sound = e.sound;
    }
