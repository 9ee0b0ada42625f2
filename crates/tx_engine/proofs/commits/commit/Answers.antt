use Rattle.std.proofs.Common.{◌∙◌, refl, sym}
use Rattle.std.proofs.lemmas.Result.{err_from_is_err_and}
use Rattle.seq_model.specs.declared.event.Request.TheVariants.{Commit}
use Rattle.shared_table.specs.Seated.{opening_of}
use Rattle.tx_engine.proofs.AskLemmas.{aborted_for, asked_for}
use Rattle.tx_engine.proofs.RequestLemmas.{asks_one, begins_none}
use Rattle.tx_engine.proofs.CommitLemmas.{commit_asked, commit_told, commits_to, starved_commit, under_commits}
use Rattle.tx_turns.proofs.RequestHistoryLemmas.{same_begins}
use Rattle.tx_turns.proofs.RestLemmas.{bare_out}
use Rattle.tx_turns.specs.Driven.{seat_in}
use Rattle.tx_engine.proofs.commits.commit.Goals as goal

pub returns-in_err-ask_open-clause-commits : goal.returns-in_err-ask_open-clause-commits
returns-in_err-ask_open-clause-commits g c =
    let e = c.in_err-ask_open.ensures in
    let p = err_from_is_err_and c.from_residual.result c.from_residual.ensures.1 in
    rw (p.1, p.2) (starved_commit (opening_of c.args.table.now) c.args.seat.now c.ask_open.new.seat _ e.keeps e.rests e.memory e.aborted
    e.noted)

pub returns-in_err-ask_open-clause-asks : goal.returns-in_err-ask_open-clause-asks
returns-in_err-ask_open-clause-asks g c =
    let e = c.in_err-ask_open.ensures in
    let p = err_from_is_err_and c.from_residual.result c.from_residual.ensures.1 in
    rw (p.1, p.2) (aborted_for _ c.args.seat.now c.ask_open.new.seat Commit _ e.memory e.asks)

pub drive_commit-told-requires-clause-under : goal.drive_commit-told-requires-clause-under
drive_commit-told-requires-clause-under g c =
    under_commits (seat_in (opening_of c.args.table.now) c.ask_open.new.seat) c.requires.open.0
    (commit_asked (opening_of c.args.table.now) c.args.seat.now c.ask_open.new.seat c.requires.open.0 c.requires.open.1
    c.in_ok-ask_open.ensures.asked).0

pub commit_told-requires : goal.commit_told-requires
commit_told-requires g c =
    commit_told (opening_of c.args.table.now) c.ask_open.new.seat c.drive_commit-told.new.seat c.requires.open.0
    (commit_asked (opening_of c.args.table.now) c.args.seat.now c.ask_open.new.seat c.requires.open.0 c.requires.open.1
    c.in_ok-ask_open.ensures.asked).0
    (bare_out c.args.table.now c.drive_commit-told.new.seat c.drive_commit-told.new.actor c.drive_commit-told.ensures.own
    ∙ sym (bare_out c.args.table.now c.ask_open.new.seat c.ask_open.new.actor c.ask_open.ensures.drives.own))
    c.drive_commit-told.result.0 c.drive_commit-told.result.1 c.drive_commit-told.ensures.answered c.drive_commit-told.ensures.driven

pub returns-clause-commits : goal.returns-clause-commits
returns-clause-commits g c =
    commits_to c.args.table.now c.args.seat.now c.ask_open.new.seat c.drive_commit-told.new.seat c.args.actor.now c.requires.open.0
    c.requires.drives.ties c.requires.open.1 c.in_ok-ask_open.ensures.asked
    (bare_out c.args.table.now c.drive_commit-told.new.seat c.drive_commit-told.new.actor c.drive_commit-told.ensures.own
    ∙ sym (bare_out c.args.table.now c.ask_open.new.seat c.ask_open.new.actor c.ask_open.ensures.drives.own))
    c.drive_commit-told.result.0 c.drive_commit-told.result.1 c.commit_told.result
    c.drive_commit-told.ensures.answered c.drive_commit-told.ensures.driven
    c.commit_told.ensures

pub returns-clause-last : goal.returns-clause-last
returns-clause-last g c = c.drive_commit-told.ensures.driven.seat.2 ∙ c.in_ok-ask_open.ensures.asked.0.2

pub returns-clause-begins : goal.returns-clause-begins
returns-clause-begins g c =
    same_begins c.ask_open.new.seat c.drive_commit-told.new.seat c.drive_commit-told.ensures.driven.asks
    ∙ begins_none c.args.seat.now c.ask_open.new.seat Commit refl c.in_ok-ask_open.ensures.asked

pub returns-clause-asks : goal.returns-clause-asks
returns-clause-asks g c =
    asked_for c.args.seat.now c.drive_commit-told.new.seat Commit c.commit_told.result
    (c.drive_commit-told.ensures.driven.asks ∙ asks_one c.args.seat.now c.ask_open.new.seat Commit c.in_ok-ask_open.ensures.asked)
