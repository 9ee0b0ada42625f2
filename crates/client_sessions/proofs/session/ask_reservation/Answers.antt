use Rattle.std.proofs.Common.{◌∙◌, ap, arith, subst, sym}
use Rattle.seq_model.specs.declared.job.Ask.TheVariants as ask
use Rattle.seq_model.specs.Programs.{after}
use Rattle.client_sessions.specs.Drafts.{AreSound}
use Rattle.client_sessions.specs.Sessions as programs
use Rattle.client_sessions.proofs.WalkLemmas.{along}
use Rattle.client_sessions.proofs.WeighedLemmas.{all_asked, asks_next}
use Rattle.client_sessions.proofs.session.ask_reservation.Goals as goal

pub weigh_all-told-requires : goal.weigh_all-told-requires
weigh_all-told-requires c = c.in_place-weighed.ensures c.args.asks.now c.args.replies.now c.requires

pub returns-then-not-told-clause-ask : goal.returns-then-not-told-clause-ask
returns-then-not-told-clause-ask c = sym (c.weigh_all-told.ensures.gives_up c.if-not-told.true c.args.customer c.args.units)

pub returns-then-not-told-clause-place : goal.returns-then-not-told-clause-place
returns-then-not-told-clause-place c = c.note.ensures c.args.asks.now c.args.replies.now c.weigh_all-told.ensures.weighed

pub returns-then-weighed-asks-clause-ask : goal.returns-then-weighed-asks-clause-ask
returns-then-weighed-asks-clause-ask c =
    let all = c.weigh_all-told.ensures.all c.if-not-told.false in
    let lt = c.if-weighed-asks.true in
    ap ask.Call c.get_of.ensures
    ∙ asks_next c.args.asks.now c.args.replies.now c.weigh_all-told.new.self c.weigh_all-told.ensures.weighed _ c.args.customer
    c.args.units lt (omega (arith, all, lt))

pub returns-then-weighed-asks-clause-place : goal.returns-then-weighed-asks-clause-place
returns-then-weighed-asks-clause-place c = c.note.ensures c.args.asks.now c.args.replies.now c.weigh_all-told.ensures.weighed

pub reserve_among-requires : goal.reserve_among-requires
reserve_among-requires c = subst AreSound (sym c.all_named-best.ensures) c.weigh_all-told.ensures.weighed.sound

pub returns-clause-place : goal.returns-clause-place
returns-clause-place c = c.note.ensures c.args.asks.now c.args.replies.now c.weigh_all-told.ensures.weighed

pub returns-clause-ask : goal.returns-clause-ask
returns-clause-ask c =
    let w = c.weigh_all-told.new.self in
    let at = c.new-walk.ensures ∙ c.split_at.ensures.back in
    let best = c.all_named-best.ensures in
    c.ask_of.ensures (after (programs.reserve c.args.customer c.args.units c.args.asks.now) c.args.replies.now)
    (along _ _ _ _ (all_asked c.args.asks.now c.args.replies.now w c.weigh_all-told.ensures.weighed c.args.customer c.args.units
    (omega (arith, c.if-weighed-asks.false))
    ∙ (λ j. after (programs.reserve_among c.args.customer c.args.units (sym best j).car (sym best j).flight (sym best j).room) (sym at j)))
    c.reserve_among.ensures)
