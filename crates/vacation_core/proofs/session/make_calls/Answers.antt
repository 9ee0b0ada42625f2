use Rattle.std.proofs.Common.{◌≡◌, ◌+◌, ◌<◌, List, arith, sym, ◌∙◌, ap, subst}
use Rattle.seq_model.specs.declared.call.Reply.{Reply}
use Rattle.seq_model.specs.declared.limits.TheConstants.{CALL_LIMIT}
use Rattle.seq_model.specs.Programs.{after, asked}
use Rattle.seq_model.specs.declared.job.Ask.TheVariants as ask
use Rattle.client_sessions.specs.declared.entry.Entry.{Entry}
use Rattle.client_sessions.specs.Sessions.{session}
use Rattle.vacation_core.proofs.SessionLemmas.{Makes, asks_within, goes_on_so, made_all, makes_none, makes_one, may_call}
use Rattle.vacation_core.proofs.session.make_calls.Goals as goal

pub loop-init : goal.loop-init
loop-init c = (
  subst (λ (rs : List (Reply Entry)). Makes c.args.session.now c.args.world.now.parts c.args.world.now.parts rs 0)
      (sym c.new-replies.ensures.items)
      (makes_none c.args.session.now c.args.world.now.parts),
  omega arith,
)

pub call-requires : goal.call-requires
call-requires c =
    may_call c.args.session.now c.args.world.now.parts c.loop.world.parts c.loop.replies.items c.loop.counter c.loop.invariant.0
    c.requires c.in-Call.asked
    (sym c.in-Call.is ∙ c.in_ok-next.ensures
    ∙ ap (λ (rs : List (Reply Entry)). asked (after (session c.args.session.now) rs)) c.as_slice.ensures.value)

pub unreachable-requires : goal.unreachable-requires
unreachable-requires c =
    goes_on_so c.args.session.now c.args.world.now.parts c.loop.world.parts c.loop.replies.items c.loop.counter c.loop.invariant.0
    c.requires
    (sym c.in-GiveUp.is ∙ c.in_ok-next.ensures
    ∙ ap (λ (rs : List (Reply Entry)). asked (after (session c.args.session.now) rs)) c.as_slice.ensures.value)

pub loop-preserved : goal.loop-preserved
loop-preserved c =
    let next : ask.Call c.in-Call.asked ≡ asked (after (session c.args.session.now) c.loop.replies.items) =
    sym c.in-Call.is ∙ c.in_ok-next.ensures
    ∙ ap (λ (rs : List (Reply Entry)). asked (after (session c.args.session.now) rs)) c.as_slice.ensures.value in
    let within : c.loop.counter < CALL_LIMIT =
    asks_within c.args.session.now c.args.world.now.parts c.loop.world.parts c.loop.replies.items c.loop.counter c.loop.invariant.0
    c.requires c.in-Call.asked next in (
      subst (λ (rs : List (Reply Entry)). Makes c.args.session.now c.args.world.now.parts c.call.new.world.parts rs (c.loop.counter + 1))
          (sym c.in_ok-push-in-Call.ensures.items)
          (makes_one c.args.session.now c.args.world.now.parts c.loop.world.parts c.loop.replies.items c.loop.counter c.loop.invariant.0
          c.in-Call.asked next c.call.new.world.parts c.in_ok-reply-in-Call.reply c.in_ok-reply-in-Call.ensures),
      omega (arith, within),
    )

pub returns-in-Done : goal.returns-in-Done
returns-in-Done c =
    made_all c.args.session.now c.args.world.now.parts c.loop.world.parts c.loop.replies.items c.loop.counter c.loop.invariant.0
    (sym c.in-Done.is ∙ c.in_ok-next.ensures
    ∙ ap (λ (rs : List (Reply Entry)). asked (after (session c.args.session.now) rs)) c.as_slice.ensures.value)
