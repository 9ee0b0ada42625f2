use Rattle.std.proofs.Common.{◌<◌, false, length, get_or, refl, sym, ap, subst, ◌∙◌, arith, rules}
use Rattle.std.proofs.lemmas.Grind.{common_steps}
use Rattle.seq_model.specs.declared.record.Record.{Record}
use Rattle.seq_model.specs.Runs.{IsLegal, after_calls}
use Rattle.seq_model.specs.Audit.{IsFirstWrong}
use Rattle.seq_model.proofs.ReplayLemmas.{place_within, record_step, record_wrong}
use Rattle.seq_model.proofs.auditing.replay.Goals as goal

pub offset_bounds-records-place : goal.offset_bounds-records-place
offset_bounds-records-place g c =
    let below : (get_or c.args.turns.now c.loop-place.place-index (0, false, 0)).2 < length c.args.records.now =
    place_within c.args.records.now c.args.turns.now c.loop-place.place-index (0, false, 0) c.requires c.loop-place-test.true in
    first_of (search rules, omega arith, grind (arith, common_steps))

pub bounds-records-place : goal.bounds-records-place
bounds-records-place g c = place_within c.args.records.now c.args.turns.now c.loop-place.place-index (0, false, 0) c.requires
    c.loop-place-test.true

pub returns-in-Some-clause-fault : goal.returns-in-Some-clause-fault
returns-in-Some-clause-fault g c =
    let calls = c.as_slice-calls.ensures ∙ ap (λ (r : Record g.row.V.Denot). r.calls) (sym c.index-records-place.is) in
    let wrong = rw c.in-Some.is at c.in_ok-call.ensures in
    record_wrong c.args.records.now c.args.turns.now c.loop-place.place-index
    (get_or c.args.turns.now c.loop-place.place-index (0, false, 0)).2 c.in-Some.call c.index-records-place.result (0, false, 0)
    c.args.state.now c.loop-place.state
    c.requires c.loop-place-test.true refl c.index-records-place.is c.loop-place.invariant
    (subst (λ cs. IsFirstWrong c.in-Some.call cs c.loop-place.state) calls wrong)

pub loop-place-preserved : goal.loop-place-preserved
loop-place-preserved g c =
    let calls = c.as_slice-calls.ensures ∙ ap (λ (r : Record g.row.V.Denot). r.calls) (sym c.index-records-place.is) in
    let legal = rw c.in_default.is at c.in_ok-call.ensures in
    record_step c.args.records.now c.args.turns.now c.loop-place.place-index
    (get_or c.args.turns.now c.loop-place.place-index (0, false, 0)).2 c.index-records-place.result (0, false, 0) c.args.state.now
    c.loop-place.state c.first_wrong.new.state
    c.requires c.loop-place-test.true refl c.index-records-place.is c.loop-place.invariant
    (subst (λ cs. IsLegal cs c.loop-place.state) calls legal.0) (legal.1 ∙ ap (λ cs. after_calls cs c.loop-place.state) calls)
