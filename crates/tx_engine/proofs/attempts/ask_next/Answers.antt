use Rattle.std.proofs.Common.{◌∷◌, ◌++◌, [], length, inl, inr, refl, ap, ◌∙◌, sym, subst, length-append}
use Rattle.std.proofs.lemmas.Result.{err_from_is_err_and}
use Rattle.seq_model.specs.Places.{IsPlaceIn}
use Rattle.shared_table.specs.Seated.{opening_of}
use Rattle.tx_engine.proofs.AttemptLemmas.{call_adds_none, call_made, call_refused, call_within, keeps_self, reaches_now, starved}
use Rattle.tx_engine.proofs.JobLemmas.{asked_here, place_on}
use Rattle.tx_engine.specs.Attempts.{IsSoFar}
use Rattle.tx_engine.specs.declared.attempts.End.TheVariants as ends
use Rattle.tx_engine.proofs.attempts.ask_next.Goals as goal

pub returns-in_err-ask_on-clause-refused : goal.returns-in_err-ask_on-clause-refused
returns-in_err-ask_on-clause-refused g c =
    let s = c.args.seat.now.seat in
    let p = err_from_is_err_and c.from_residual.result c.from_residual.ensures.1 in
    rw (p.1, p.2) (inr (starved (g.J.Job.asks c.args.job.now) (opening_of c.args.table.now) s s c.args.replies.now.items (keeps_self s)
    refl c.requires.so_far))

pub returns-in_err-reply-in-Call-clause-refused : goal.returns-in_err-reply-in-Call-clause-refused
returns-in_err-reply-in-Call-clause-refused g c =
    let asks = g.J.Job.asks c.args.job.now in
    let so_far = c.requires.so_far in
    let asked = asked_here asks _ c.args.replies.now.items _ _ c.as_slice.ensures.value c.in-Call.is c.in_ok-ask_on.ensures.ask in
    let p = err_from_is_err_and c.from_residual-in_err-reply-in-Call.result c.from_residual-in_err-reply-in-Call.ensures.1 in
    rw (p.1, p.2) (inl (call_refused asks (opening_of c.args.table.now) c.args.seat.now.seat c.call.new.self.seat
    c.args.replies.now.items c.in-Call.call _ so_far asked (c.in_err-reply-in-Call.ensures.called.calls (so_far.calls, so_far.stands))))

pub returns-in-Done-clause-reaches : goal.returns-in-Done-clause-reaches
returns-in-Done-clause-reaches g c =
    let asks = g.J.Job.asks c.args.job.now in
    reaches_now asks (opening_of c.args.table.now) c.args.seat.now.seat c.args.replies.now.items ends.Done c.requires.so_far
    (asked_here asks _ c.args.replies.now.items _ _ c.as_slice.ensures.value c.in-Done.is c.in_ok-ask_on.ensures.ask)

pub returns-in-GiveUp-clause-reaches : goal.returns-in-GiveUp-clause-reaches
returns-in-GiveUp-clause-reaches g c =
    let asks = g.J.Job.asks c.args.job.now in
    reaches_now asks (opening_of c.args.table.now) c.args.seat.now.seat c.args.replies.now.items ends.GivenUp c.requires.so_far
    (asked_here asks _ c.args.replies.now.items _ _ c.as_slice.ensures.value c.in-GiveUp.is c.in_ok-ask_on.ensures.ask)

pub returns-in_ok-push-in-Call-clause-so_far : goal.returns-in_ok-push-in-Call-clause-so_far
returns-in_ok-push-in-Call-clause-so_far g c =
    let asks = g.J.Job.asks c.args.job.now in
    let o = opening_of c.args.table.now in
    let so_far = c.requires.so_far in
    let asked = asked_here asks _ c.args.replies.now.items _ _ c.as_slice.ensures.value c.in-Call.is c.in_ok-ask_on.ensures.ask in
    subst (λ rs. IsSoFar asks o c.call.new.self.seat rs) (sym c.in_ok-push-in-Call.ensures.items)
    (call_made asks o c.args.seat.now.seat c.call.new.self.seat c.args.replies.now.items c.in-Call.call c.in_ok-reply-in-Call.reply
    so_far asked (c.in_ok-reply-in-Call.ensures.called.calls (so_far.calls, so_far.stands)))

pub returns-in_err-push-in-Call-clause-refused : goal.returns-in_err-push-in-Call-clause-refused
returns-in_err-push-in-Call-clause-refused g c =
    let asks = g.J.Job.asks c.args.job.now in
    let o = opening_of c.args.table.now in
    let s = c.args.seat.now.seat in
    let m = c.call.new.self.seat in
    let replies = c.args.replies.now.items in
    let reply = c.in_ok-reply-in-Call.reply in
    let so_far = c.requires.so_far in
    let asked = asked_here asks _ replies _ _ c.as_slice.ensures.value c.in-Call.is c.in_ok-ask_on.ensures.ask in
    let called = c.in_ok-reply-in-Call.ensures.called.calls (so_far.calls, so_far.stands) in
    let p = err_from_is_err_and c.from_residual-in_err-push-in-Call.result c.from_residual-in_err-push-in-Call.ensures.1 in
    rw (p.1, p.2) (inr (starved asks o s m (replies ++ reply ∷ []) called.keeps
    (call_adds_none asks o s m replies c.in-Call.call reply so_far called)
    (call_made asks o s m replies c.in-Call.call reply so_far asked called)))

pub returns-in_ok-push-in-Call-clause-room : goal.returns-in_ok-push-in-Call-clause-room
returns-in_ok-push-in-Call-clause-room g c =
    let asks = g.J.Job.asks c.args.job.now in
    let so_far = c.requires.so_far in (
      call_within asks (opening_of c.args.table.now) c.args.seat.now.seat c.call.new.self.seat c.args.replies.now.items c.in-Call.call
          c.in_ok-reply-in-Call.reply so_far (c.in_ok-reply-in-Call.ensures.called.calls (so_far.calls, so_far.stands)),
      ap length c.in_ok-push-in-Call.ensures.items ∙ length-append c.args.replies.now.items (c.in_ok-reply-in-Call.reply ∷ []),
    )

pub returns-in_ok-push-in-Call-clause-same : goal.returns-in_ok-push-in-Call-clause-same
returns-in_ok-push-in-Call-clause-same g c =
    let so_far = c.requires.so_far in
    call_adds_none (g.J.Job.asks c.args.job.now) (opening_of c.args.table.now) c.args.seat.now.seat c.call.new.self.seat
    c.args.replies.now.items c.in-Call.call c.in_ok-reply-in-Call.reply so_far
    (c.in_ok-reply-in-Call.ensures.called.calls (so_far.calls, so_far.stands))

pub ask_on-requires : goal.ask_on-requires
ask_on-requires g c = record {
  place = subst (λ rs. IsPlaceIn (g.J.Job.stands c.args.job.now) rs c.args.place.now) (sym c.as_slice.ensures.value) c.requires.place;
}

pub returns-in_ok-push-in-Call-clause-place : goal.returns-in_ok-push-in-Call-clause-place
returns-in_ok-push-in-Call-clause-place g c =
    let stands = g.J.Job.stands c.args.job.now in
    subst (λ rs. IsPlaceIn stands rs c.ask_on.new.place) (sym c.in_ok-push-in-Call.ensures.items)
    (place_on stands c.args.replies.now.items (c.in_ok-reply-in-Call.reply ∷ []) c.ask_on.new.place
    (subst (λ rs. IsPlaceIn stands rs c.ask_on.new.place) c.as_slice.ensures.value c.ask_on.ensures.place))
