use Rattle.std.proofs.Common.{◌∙◌, subst, List}
use Rattle.std.specs.Prelude.{IfErr, OnOk}
use Rattle.seq_model.specs.declared.record.Record.{Record}
use Rattle.client_sessions.specs.declared.entry.Entry.{Entry}
use Rattle.session_text.specs.Findings.{IsFinding, IsSound}
use Rattle.command_line.proofs.inspection.look_through.Goals as goal

pub returns-clause-sound : goal.returns-clause-sound
returns-clause-sound c =
    subst (λ (rs : List (Record Entry)). OnOk c.inspect.result (IsSound c.args.opening.now rs c.args.state.now c.args.tables.now))
    (c.as_slice.ensures.value ∙ c.in_ok-receipts.ensures) c.inspect.ensures.sound

pub returns-clause-finding : goal.returns-clause-finding
returns-clause-finding c =
    subst (λ (rs : List (Record Entry)). IfErr c.inspect.result (IsFinding c.args.opening.now rs c.args.state.now c.args.tables.now))
    (c.as_slice.ensures.value ∙ c.in_ok-receipts.ensures) c.inspect.ensures.finding
