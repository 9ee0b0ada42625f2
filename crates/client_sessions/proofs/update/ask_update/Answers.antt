use Rattle.std.proofs.Common.{◌∙◌, ◌∷◌, [], arith}
use Rattle.seq_model.specs.declared.place.JobPlace.{JobPlace}
use Rattle.seq_model.specs.Programs.{after}
use Rattle.client_sessions.specs.Sessions as programs
use Rattle.client_sessions.proofs.ChangedLemmas.{all_changed, change_stops, changed_noted}
use Rattle.client_sessions.proofs.update.ask_update.Goals as goal

pub pass_changes-requires-clause-changed : goal.pass_changes-requires-clause-changed
pass_changes-requires-clause-changed c = c.passed_in-passed.ensures c.args.changes.now c.args.replies.now c.requires.place

pub returns-then-passed-changes-clause-ask : goal.returns-then-passed-changes-clause-ask
returns-then-passed-changes-clause-ask c =
    all_changed c.args.changes.now c.args.replies.now c.pass_changes.new.heard c.pass_changes.new.passed c.pass_changes.ensures
    (omega (arith, c.if-passed-changes.true))

pub returns-then-passed-changes-clause-place : goal.returns-then-passed-changes-clause-place
returns-then-passed-changes-clause-place c =
    let place : JobPlace = record { heard = c.pass_changes.new.heard; marks = c.pass_changes.new.passed ∷ 0 ∷ 0 ∷ 0 ∷ [] } in
    changed_noted c.args.changes.now c.args.replies.now place c.pass_changes.ensures

pub returns-in-Err-clause-place : goal.returns-in-Err-clause-place
returns-in-Err-clause-place c =
    let place : JobPlace = record { heard = c.pass_changes.new.heard; marks = c.pass_changes.new.passed ∷ 0 ∷ 0 ∷ 0 ∷ [] } in
    changed_noted c.args.changes.now c.args.replies.now place c.pass_changes.ensures

pub returns-in-Ok-clause-place : goal.returns-in-Ok-clause-place
returns-in-Ok-clause-place c =
    let place : JobPlace = record { heard = c.pass_changes.new.heard; marks = c.pass_changes.new.passed ∷ 0 ∷ 0 ∷ 0 ∷ [] } in
    changed_noted c.args.changes.now c.args.replies.now place c.pass_changes.ensures

pub returns-in-Err-clause-ask : goal.returns-in-Err-clause-ask
returns-in-Err-clause-ask c =
    c.ask_of.ensures (after (programs.update c.args.changes.now) c.args.replies.now)
    (change_stops c.args.changes.now c.args.replies.now c.pass_changes.new.heard c.pass_changes.new.passed c.pass_changes.ensures _
    c.in-Err.stop c.new-walk.result (c.new-walk.ensures ∙ c.split_at.ensures.back)
    (omega (arith, c.pass_changes.ensures.few, c.if-passed-changes.false)) c.in-Err.ensures)
