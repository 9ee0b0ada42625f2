use Rattle.std.proofs.Common.{Some, None, sym, ap, subst, ◌∙◌}
use Rattle.std.proofs.lemmas.Bool.{false≢true}
use Rattle.std.proofs.lemmas.Result.{err_from_is_err_and}
use Rattle.seq_model.specs.Runs.{IsRun, after_run}
use Rattle.seq_model.specs.Audit.{run_order}
use Rattle.seq_model.proofs.ReplayLemmas.{in_turn, shared_numbers, replay_fault}
use Rattle.seq_model.proofs.auditing.audit.Goals as goal

pub double_number-requires : goal.double_number-requires
double_number-requires g c = in_turn c.args.records.now c.deref.result.now (c.deref.ensures.value ∙ c.in_ok-turns.ensures.turns)

pub returns-in-Some-clause-fault : goal.returns-in-Some-clause-fault
returns-in-Some-clause-fault g c =
    shared_numbers c.args.records.now c.deref.result.now (Some c.in-Some.number) (c.deref.ensures.value ∙ c.in_ok-turns.ensures.turns)
    c.in-Some.ensures

pub returns-in_err-replay-clause-fault : goal.returns-in_err-replay-clause-fault
returns-in_err-replay-clause-fault g c =
    let own = shared_numbers c.args.records.now c.deref.result.now None (c.deref.ensures.value ∙ c.in_ok-turns.ensures.turns)
    c.in_default.ensures in
    let p = err_from_is_err_and c.from_residual-in_err-replay.result c.from_residual-in_err-replay.ensures.1 in
    rw (p.1, p.2) (replay_fault c.args.opening.now c.in_ok-state.state c.args.last.now c.args.records.now c.in_err-replay.field-0.0
    c.in_ok-state.ensures own c.in_err-replay.ensures.fault)

pub returns-then-not-same-clause-fault : goal.returns-then-not-same-clause-fault
returns-then-not-same-clause-fault g c =
    let own = shared_numbers c.args.records.now c.deref.result.now None (c.deref.ensures.value ∙ c.in_ok-turns.ensures.turns)
    c.in_default.ensures in
    let order = run_order c.args.records.now in
    let run = c.in_ok-replay.ensures.ok in (
      own,
      subst (IsRun order) c.in_ok-state.ensures run.0,
      λ e. false≢true (sym c.if-not-same.true ∙ c.same.ensures.1 (run.1 ∙ ap (after_run order) c.in_ok-state.ensures ∙ e)),
    )

pub returns-clause-ok : goal.returns-clause-ok
returns-clause-ok g c =
    let own = shared_numbers c.args.records.now c.deref.result.now None (c.deref.ensures.value ∙ c.in_ok-turns.ensures.turns)
    c.in_default.ensures in
    let order = run_order c.args.records.now in
    let run = c.in_ok-replay.ensures.ok in (
      own,
      subst (IsRun order) c.in_ok-state.ensures run.0,
      sym (run.1 ∙ ap (after_run order) c.in_ok-state.ensures)
          ∙ c.same.ensures.0 c.if-not-same.false,
    )
