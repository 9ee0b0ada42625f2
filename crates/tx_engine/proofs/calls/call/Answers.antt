use Rattle.std.proofs.Common.{◌∙◌, ◌≢◌, refl, subst, sym, rules}
use Rattle.std.specs.Prelude.{Err}
use Rattle.seq_model.specs.declared.event.Request.TheVariants as request
use Rattle.seq_model.specs.declared.refusal.Refusal.{Refusal}
use Rattle.tx_actor.specs.declared.actor.ActorNotice.{ActorNotice}
use Rattle.tx_actor.specs.declared.actor.ActorNotice.TheVariants as told
use Rattle.shared_table.specs.Seated.{opening_of}
use Rattle.tx_engine.proofs.AskLemmas.{aborted_for, asked_for}
use Rattle.tx_engine.proofs.RequestLemmas.{asks_one, begins_none}
use Rattle.tx_engine.proofs.CallLemmas.{at_once, call_starved, call_told, calls_on, driven_calls}
use Rattle.tx_engine.specs.Requests.{CallsTo}
use Rattle.tx_turns.proofs.RequestHistoryLemmas.{same_begins}
use Rattle.tx_turns.proofs.RestLemmas.{bare_out}
use Rattle.tx_turns.specs.RequestStep.{Answers}
use Rattle.tx_engine.proofs.calls.call.Goals as goal

pub driven_call-requires-clause-calls : goal.driven_call-requires-clause-calls
driven_call-requires-clause-calls g c = (
  c.requires.open.0,
  (
    c.args.call,
    calls_on c.args.table.now c.args.seat.now c.ask_open.new.seat c.args.call c.requires.open
        c.in-Ok-Quiet.ensures.asked c.args.actor.now c.requires.drives.ties c.requires.open.0 c.requires.open.1
        (subst (λ (n : ActorNotice _). Answers (opening_of c.args.table.now) c.args.seat.now
        (request.Call c.args.call) n) c.in-Ok-Quiet.field-0-is c.in-Ok-Quiet.ensures.answers),
  ),
)

pub reply_told-requires : goal.reply_told-requires
reply_told-requires g c =
    let ne : c.in-Ok.told ≢ told.Quiet = search rules in
    call_told c.args.table.now c.args.seat.now c.ask_open.new.seat c.args.call c.requires.open
    c.in-Ok.ensures.asked c.requires.open.0 c.requires.open.1 c.in-Ok.told ne c.in-Ok.ensures.answers

pub returns-in-Ok-Quiet-clause-calls : goal.returns-in-Ok-Quiet-clause-calls
returns-in-Ok-Quiet-clause-calls g c =
    driven_calls c.args.table.now c.args.seat.now c.ask_open.new.seat c.args.call c.requires.open
    c.in-Ok-Quiet.ensures.asked c.args.actor.now c.driven_call.new.seat c.driven_call.result c.requires.drives.ties
    (subst (λ (n : ActorNotice _). Answers (opening_of c.args.table.now) c.args.seat.now
    (request.Call c.args.call) n) c.in-Ok-Quiet.field-0-is c.in-Ok-Quiet.ensures.answers)
    (bare_out c.args.table.now c.driven_call.new.seat c.driven_call.new.actor c.driven_call.ensures.drives.own
    ∙ sym (bare_out c.args.table.now c.ask_open.new.seat c.ask_open.new.actor c.ask_open.ensures.drives.own))
    c.driven_call.ensures.driven

pub returns-in-Ok-clause-calls : goal.returns-in-Ok-clause-calls
returns-in-Ok-clause-calls g c =
    at_once c.args.table.now c.args.seat.now c.ask_open.new.seat c.args.call c.requires.open
    c.in-Ok.ensures.asked c.in-Ok.told c.reply_told.result c.reply_told.ensures c.in-Ok.ensures.answers

pub returns-in-Err-clause-calls : goal.returns-in-Err-clause-calls
returns-in-Err-clause-calls g c =
    subst (λ (e : Refusal). CallsTo (opening_of c.args.table.now) c.args.seat.now c.args.call c.ask_open.new.seat (Err e))
    (sym c.in-Err.ensures.memory)
    (call_starved (opening_of c.args.table.now) c.args.seat.now c.ask_open.new.seat c.args.call c.in-Err.ensures.keeps
    c.in-Err.ensures.rests c.in-Err.ensures.aborted c.in-Err.ensures.noted c.in-Err.ensures.reader c.in-Err.ensures.admits)

pub returns-in-Ok-Quiet-clause-begins : goal.returns-in-Ok-Quiet-clause-begins
returns-in-Ok-Quiet-clause-begins g c =
    same_begins c.ask_open.new.seat c.driven_call.new.seat c.driven_call.ensures.driven.1.asks
    ∙ begins_none c.args.seat.now c.ask_open.new.seat (request.Call c.args.call) refl c.in-Ok-Quiet.ensures.asked

pub returns-in-Ok-clause-begins : goal.returns-in-Ok-clause-begins
returns-in-Ok-clause-begins g c =
    begins_none c.args.seat.now c.ask_open.new.seat (request.Call c.args.call) refl c.in-Ok.ensures.asked

pub returns-in-Err-clause-begins : goal.returns-in-Err-clause-begins
returns-in-Err-clause-begins g c = c.in-Err.ensures.begins

pub returns-in-Ok-Quiet-clause-asks : goal.returns-in-Ok-Quiet-clause-asks
returns-in-Ok-Quiet-clause-asks g c =
    asked_for c.args.seat.now c.driven_call.new.seat (request.Call c.args.call) c.driven_call.result
    (c.driven_call.ensures.driven.1.asks
    ∙ asks_one c.args.seat.now c.ask_open.new.seat (request.Call c.args.call) c.in-Ok-Quiet.ensures.asked)

pub returns-in-Ok-clause-asks : goal.returns-in-Ok-clause-asks
returns-in-Ok-clause-asks g c =
    asked_for c.args.seat.now c.ask_open.new.seat (request.Call c.args.call) c.reply_told.result
    (asks_one c.args.seat.now c.ask_open.new.seat (request.Call c.args.call) c.in-Ok.ensures.asked)

pub returns-in-Err-clause-asks : goal.returns-in-Err-clause-asks
returns-in-Err-clause-asks g c =
    aborted_for _ c.args.seat.now c.ask_open.new.seat (request.Call c.args.call) _ c.in-Err.ensures.memory c.in-Err.ensures.asks
