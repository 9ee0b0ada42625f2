use Rattle.std.proofs.Common.{true}
use Rattle.shared_table.specs.Seated.{opening_of}
use Rattle.tx_turns.proofs.CommitLemmas.{failed, joins, stands}
use Rattle.tx_turns.proofs.commits.commit_on.Goals as goal

pub returns-in_err-gates_on-clause-wants : goal.returns-in_err-gates_on-clause-wants
returns-in_err-gates_on-clause-wants g c =
    let o = opening_of c.args.table.now in
    let s = c.args.seat.now in
    let d = c.args.made.now in
    let locked = joins o s s c.lock_left.new.seat c.lock_left.result true c.lock_left.new.said d d d c.if-not-lock_left.false
    (stands o s d) (c.lock_left.ensures.leads d) in
    let checked = joins o s c.lock_left.new.seat c.check_left.new.seat c.check_left.result true c.check_left.new.said d d d
    c.if-not-check_left.false locked (c.check_left.ensures.leads d) in
    failed c.from_residual.result (λ f was. c.in_err-gates_on.ensures.wants d f (checked f was))

pub returns-in_err-first_stored_on-clause-wants : goal.returns-in_err-first_stored_on-clause-wants
returns-in_err-first_stored_on-clause-wants g c =
    let o = opening_of c.args.table.now in
    let s = c.args.seat.now in
    let d = c.args.made.now in
    let locked = joins o s s c.lock_left.new.seat c.lock_left.result true c.lock_left.new.said d d d c.if-not-lock_left.false
    (stands o s d) (c.lock_left.ensures.leads d) in
    let checked = joins o s c.lock_left.new.seat c.check_left.new.seat c.check_left.result true c.check_left.new.said d d d
    c.if-not-check_left.false locked (c.check_left.ensures.leads d) in
    let gated = joins o s c.check_left.new.seat c.gates_on.new.seat c.in_ok-gates_on.field-0 true c.gates_on.new.said d d d
    c.if-not-branch.false checked (c.in_ok-gates_on.ensures.leads d) in
    failed c.from_residual-in_err-first_stored_on.result (λ f was. c.in_err-first_stored_on.ensures.wants f (gated f was))

pub returns-clause-leads : goal.returns-clause-leads
returns-clause-leads g c =
    let o = opening_of c.args.table.now in
    let s = c.args.seat.now in
    let d = c.args.made.now in
    let e = c.first_stored_on.new.made in
    let locked = joins o s s c.lock_left.new.seat c.lock_left.result true c.lock_left.new.said d d d c.if-not-lock_left.false
    (stands o s d) (c.lock_left.ensures.leads d) in
    let checked = joins o s c.lock_left.new.seat c.check_left.new.seat c.check_left.result true c.check_left.new.said d d d
    c.if-not-check_left.false locked (c.check_left.ensures.leads d) in
    let gated = joins o s c.check_left.new.seat c.gates_on.new.seat c.in_ok-gates_on.field-0 true c.gates_on.new.said d d d
    c.if-not-branch.false checked (c.in_ok-gates_on.ensures.leads d) in
    let first = joins o s c.gates_on.new.seat c.first_stored_on.new.seat c.in_ok-first_stored_on.field-0 true
    c.first_stored_on.new.said d d e c.if-not-branch-2.false gated c.in_ok-first_stored_on.ensures.leads in
    let stored = joins o s c.first_stored_on.new.seat c.store_left.new.seat c.store_left.result true c.store_left.new.said d e e
    c.if-not-store_left.false first (c.store_left.ensures.leads e) in
    let home = joins o s c.store_left.new.seat c.homes_on.new.seat c.homes_on.result true c.homes_on.new.said d e e
    c.if-not-homes_on.false stored (c.homes_on.ensures.leads e) in
    λ f was. c.release_left.ensures.leads e f (home f was)
